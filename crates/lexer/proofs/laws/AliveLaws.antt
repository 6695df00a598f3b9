-- The walk that keeps alive positions alone finds what the whole walk finds, and goes over the bytes of the match and no other. Over any
-- list of positions and any sets: nothing is asked of rules, classes and follow sets. What a whole reading costs is not here (WorkLaws).
use Rattle.std.specs.Prelude.{◌≡◌, refl, Bool, true, false, not, ◌&&◌, cond, List, [], ◌∷◌, ◌⊎◌, ℕ, zero, suc, ◌+◌, ◌^◌, ◌≤◌, eqb, length, take}
use Rattle.std.proofs.Common.{sym, ap, ap₂, ◌∙◌, subst, true≢false, inl, inr, ⊎_elim, arith, eq-eqb, ne_eqb, eqb-true}
use Rattle.std.proofs.Math.Option.{Option, none, some}
use Rattle.std.specs.Int.Bits.{bit_or, bit_and}
use Rattle.std.specs.Int.Count.{count_trailing_zeros}
use Rattle.std.proofs.lemmas.Bool.{eqb-false}
use Rattle.basics.specs.Bits.{bit, ◌∈◌}
use Rattle.basics.proofs.laws.BitLaws.{∈_cases, ∈_left, ∈_right, ∈_zero, ∈_cond, ∈_when, ∈_one, ∈_self, ∈_disjoint, bit-and, bit_ext_all}
use Rattle.basics.proofs.laws.BitLaws.{lt-pow_self}
use Rattle.basics.proofs.laws.LowestMember.{lowest, lowest_in}
use Rattle.basics.proofs.laws.Truth.{and-true-first, and-true-second}
use Rattle.lexer.specs.Positions.{Position}
use Rattle.lexer.specs.Match.{Match, no_match, matched, longer}
use Rattle.lexer.specs.Walk.{has_byte, keep, follows, ended_rule, walk, longest_match}
use Rattle.lexer.specs.Alive.{walk_bytes, match_bytes, vain, ends_with, in_vain, told_by, meets, last_set, leads_to, alive_before}
use Rattle.lexer.specs.Alive.{alive, cut_walk, cut_bytes}
use Rattle.lexer.proofs.laws.Least.{LeastOf, least_iff, least_one}
use Rattle.lexer.proofs.laws.PositionList.{PositionFrom, first_place, later_place, PositionAt, place_one}
use Rattle.lexer.proofs.laws.WalkLaws.{in_keep, keep_in, in_follows, follows_in, EndsRule, ended-least}
use Rattle.lexer.proofs.laws.LowestPosition.{follows_nothing, ended_nothing, walk_nothing}
use Rattle.lexer.proofs.laws.VainLaws.{match_or-vain}

-- ---- sets

-- A number above 0 has a member.
some_member : (s : ℕ) → (s ≡ 0 → ⊥) → (i : ℕ) × (i ∈ s)
some_member s h = let w = lowest s s h (lt-pow_self s) in (count_trailing_zeros s s, lowest_in s s (count_trailing_zeros s s) w)

pub in_both : (a b i : ℕ) → i ∈ bit_and a b → (i ∈ a) × (i ∈ b)
in_both a b i h =
    let e : (bit a i && bit b i) ≡ true = sym (bit-and a b i) ∙ h in
    (and-true-first (bit a i) (bit b i) e, and-true-second (bit a i) (bit b i) e)

pub both_in : (a b i : ℕ) → i ∈ a → i ∈ b → i ∈ bit_and a b
both_in a b i ha hb = bit-and a b i ∙ ap₂ ◌&&◌ ha hb

pub same_members : (a b : ℕ) → ((i : ℕ) → i ∈ a → i ∈ b) → ((i : ℕ) → i ∈ b → i ∈ a) → a ≡ b
same_members a b f g = bit_ext_all a b (λ i. go (bit a i) (bit b i) (f i) (g i))
  where
    go : (x y : Bool) → (x ≡ true → y ≡ true) → (y ≡ true → x ≡ true) → x ≡ y
    go true y f g = sym (f refl)
    go false true f g = g refl
    go false false f g = refl

pub meets-at : (a b i : ℕ) → i ∈ a → i ∈ b → meets a b ≡ true
unfolding meets
meets-at a b i ha hb = ap not (ne_eqb (bit_and a b) 0 (λ e. ∈_disjoint a b i e ha hb))

pub meets-some : (a b : ℕ) → meets a b ≡ true → (i : ℕ) × (i ∈ a) × (i ∈ b)
unfolding meets
meets-some a b e =
    let m = some_member (bit_and a b) (λ z. true≢false (sym e ∙ ap not (eq-eqb (bit_and a b) 0 z))) in
    let h = in_both a b m.0 m.1 in
    (m.0, h.0, h.1)

-- ---- the members of each set

pub last_set_in : {ps : List Position} {i j : ℕ} {p : Position} → PositionFrom ps i j p → p.last ≡ true → j ∈ last_set ps i
unfolding last_set
last_set_in (first_place {p = p} {i = i}) e = ∈_left (cond p.last (2 ^ i) 0) _ i (∈_when p.last (2 ^ i) i e (∈_self i))
last_set_in (later_place {q = q} {i = i} {j = j} t) e = ∈_right (cond q.last (2 ^ i) 0) _ j (last_set_in t e)

pub in_last_set : (ps : List Position) (i j : ℕ) → j ∈ last_set ps i → (p : Position) × PositionFrom ps i j p × (p.last ≡ true)
unfolding last_set
in_last_set [] i j h = ∈_zero j h
in_last_set (p ∷ ps) i j h =
    ⊎_elim
    (λ x.
    let y = ∈_cond p.last (2 ^ i) j x in
    subst (λ (k : ℕ). (q : Position) × PositionFrom (p ∷ ps) i k q × (q.last ≡ true)) (∈_one i j y.1) (p, first_place, y.0))
    (λ x. let y = in_last_set ps (suc i) j x in (y.0, later_place y.1, y.2))
    (∈_cases (cond p.last (2 ^ i) 0) (last_set ps (suc i)) j h)

pub leads_to_in : {ps : List Position} {i j : ℕ} {p : Position} → PositionFrom ps i j p → (next : ℕ) → meets p.follow next ≡ true
    → j ∈ leads_to ps i next
unfolding leads_to
leads_to_in (first_place {p = p} {i = i}) next e =
    ∈_left (cond (meets p.follow next) (2 ^ i) 0) _ i (∈_when (meets p.follow next) (2 ^ i) i e (∈_self i))
leads_to_in (later_place {q = q} {i = i} {j = j} t) next e =
    ∈_right (cond (meets q.follow next) (2 ^ i) 0) _ j (leads_to_in t next e)

pub in_leads_to : (ps : List Position) (i next j : ℕ) → j ∈ leads_to ps i next
    → (p : Position) × PositionFrom ps i j p × (meets p.follow next ≡ true)
unfolding leads_to
in_leads_to [] i next j h = ∈_zero j h
in_leads_to (p ∷ ps) i next j h =
    ⊎_elim
    (λ x.
    let y = ∈_cond (meets p.follow next) (2 ^ i) j x in
    subst (λ (k : ℕ). (q : Position) × PositionFrom (p ∷ ps) i k q × (meets q.follow next ≡ true)) (∈_one i j y.1)
    (p, first_place, y.0))
    (λ x. let y = in_leads_to ps (suc i) next j x in (y.0, later_place y.1, y.2))
    (∈_cases (cond (meets p.follow next) (2 ^ i) 0) (leads_to ps (suc i) next) j h)

-- A position whose class has the byte is alive where it is last, and where one that may come next is alive after the byte.
pub last-alive : {ps : List Position} {j : ℕ} {p : Position} → PositionAt ps j p → (b next : ℕ) → has_byte p b ≡ true → p.last ≡ true
    → j ∈ alive_before ps b next
unfolding alive_before
last-alive {ps} {j} t b next h e =
    keep_in t (bit_or (last_set ps 0) (leads_to ps 0 next)) b (∈_left (last_set ps 0) (leads_to ps 0 next) j (last_set_in t e)) h

pub leading-alive : {ps : List Position} {j : ℕ} {p : Position} → PositionAt ps j p → (b next q : ℕ) → has_byte p b ≡ true
    → q ∈ p.follow → q ∈ next → j ∈ alive_before ps b next
unfolding alive_before
leading-alive {ps} {j} {p} t b next q h f m =
    keep_in t (bit_or (last_set ps 0) (leads_to ps 0 next)) b
    (∈_right (last_set ps 0) (leads_to ps 0 next) j (leads_to_in t next (meets-at p.follow next q f m))) h

-- And only there.
pub in_alive : (ps : List Position) (b next j : ℕ) → j ∈ alive_before ps b next
    → (p : Position) × PositionAt ps j p × (has_byte p b ≡ true) × ((p.last ≡ true) ⊎ (meets p.follow next ≡ true))
unfolding alive_before
in_alive ps b next j h =
    let k = in_keep ps 0 (bit_or (last_set ps 0) (leads_to ps 0 next)) b j h in (
      k.0,
      k.1,
      k.3,
      ⊎_elim
          (λ x. let y = in_last_set ps 0 j x in inl (ap (λ (q : Position). q.last) (place_one k.1 y.1) ∙ y.2))
          (λ x. let y = in_leads_to ps 0 next j x in inr (ap (λ (q : Position). meets q.follow next) (place_one k.1 y.1) ∙ y.2))
          (∈_cases (last_set ps 0) (leads_to ps 0 next) j k.2),
    )

follows-more : (ps : List Position) (a b : ℕ) → ((j : ℕ) → j ∈ a → j ∈ b) → (q : ℕ) → q ∈ follows ps 0 a → q ∈ follows ps 0 b
follows-more ps a b f q h = let y = in_follows ps 0 a q h in follows_in y.2 b q (f y.0 y.3) y.4

-- ---- one byte: what the cut walk keeps, and what the whole walk keeps

module _ (ps : List Position) (held b : ℕ) (text : List ℕ) where
  abbrev whole : ℕ
  whole = keep ps 0 held b

  abbrev kept : ℕ
  kept = bit_and held (alive ps (b ∷ text))

  kept_whole : (j : ℕ) → j ∈ kept → j ∈ whole
  unfolding alive
  kept_whole j h =
      let m = in_both held (alive ps (b ∷ text)) j h in
      let a = in_alive ps b (alive ps text) j m.1 in
      keep_in a.1 held b m.0 a.2

  whole_held : (j : ℕ) (p : Position) → PositionAt ps j p → j ∈ whole → (j ∈ held) × (has_byte p b ≡ true)
  whole_held j p t h =
      let k = in_keep ps 0 held b j h in (k.2, subst (λ (q : Position). has_byte q b ≡ true) (place_one k.1 t) k.3)

  -- The whole walk keeps no other position that is last, and no other that an alive one may follow.
  whole_last : (j : ℕ) (p : Position) → PositionAt ps j p → j ∈ whole → p.last ≡ true → j ∈ kept
  unfolding alive
  whole_last j p t h e =
      let k = whole_held j p t h in both_in held (alive ps (b ∷ text)) j k.0 (last-alive t b (alive ps text) k.1 e)

  whole_leading : (j : ℕ) (p : Position) → PositionAt ps j p → j ∈ whole → (q : ℕ) → q ∈ p.follow → q ∈ alive ps text → j ∈ kept
  unfolding alive
  whole_leading j p t h q f m =
      let k = whole_held j p t h in both_in held (alive ps (b ∷ text)) j k.0 (leading-alive t b (alive ps text) q k.1 f m)

  -- So the same rule ends a match, and the same alive positions are held next.
  same_ended : ended_rule ps 0 kept ≡ ended_rule ps 0 whole
  same_ended =
      least_one (EndsRule ps 0 whole) (ended_rule ps 0 kept) (ended_rule ps 0 whole)
      (least_iff (EndsRule ps 0 kept) (EndsRule ps 0 whole) (λ k. (
        λ h. (h.0, h.1, h.2, kept_whole h.0 h.3, h.4, h.5),
        λ h. (h.0, h.1, h.2, whole_last h.0 h.1 h.2 h.3 h.4, h.4, h.5),
      )) (ended_rule ps 0 kept) (ended-least ps 0 kept))
      (ended-least ps 0 whole)

  same_next : bit_and (follows ps 0 kept) (alive ps text) ≡ bit_and (follows ps 0 whole) (alive ps text)
  same_next =
      same_members (bit_and (follows ps 0 kept) (alive ps text)) (bit_and (follows ps 0 whole) (alive ps text))
      (λ q h.
      let m = in_both (follows ps 0 kept) (alive ps text) q h in
      both_in (follows ps 0 whole) (alive ps text) q (follows-more ps kept whole kept_whole q m.0) m.1)
      (λ q h.
      let m = in_both (follows ps 0 whole) (alive ps text) q h in
      let f = in_follows ps 0 whole q m.0 in
      both_in (follows ps 0 kept) (alive ps text) q
      (follows_in f.2 kept q (whole_leading f.0 f.1 f.2 f.3 q f.4 m.1) f.4) m.1)

-- ---- the whole text

cut_nothing : (ps : List Position) (text : List ℕ) (n : ℕ) (best : Match) → cut_walk ps 0 text n best ≡ best
unfolding cut_walk
cut_nothing ps [] n best = refl
cut_nothing ps (b ∷ text) n best = refl

-- Alive positions alone count.
cut_same : (ps : List Position) (held other : ℕ) (text : List ℕ) (n : ℕ) (best : Match)
    → bit_and held (alive ps text) ≡ bit_and other (alive ps text) → cut_walk ps held text n best ≡ cut_walk ps other text n best
unfolding cut_walk
cut_same ps held other [] n best e = refl
cut_same ps held other (b ∷ text) n best e =
    ap (λ (k : ℕ). cond (eqb k 0) best (cut_walk ps (follows ps 0 k) text (suc n) (longer (ended_rule ps 0 k) (suc n) best))) e

-- To go on with nothing kept would find nothing more.
going_on : (ps : List Position) (k : ℕ) (text : List ℕ) (n : ℕ) (best : Match)
    → cond (eqb k 0) best (cut_walk ps (follows ps 0 k) text (suc n) (longer (ended_rule ps 0 k) (suc n) best))
    ≡ cut_walk ps (follows ps 0 k) text (suc n) (longer (ended_rule ps 0 k) (suc n) best)
unfolding longer
going_on ps k text n best = go (eqb k 0) refl
  where
    on : ℕ → Match
    on s = cut_walk ps (follows ps 0 s) text (suc n) (longer (ended_rule ps 0 s) (suc n) best)

    nothing_on : on 0 ≡ best
    nothing_on =
        ap₂ (λ (s : ℕ) (o : Option ℕ). cut_walk ps s text (suc n) (longer o (suc n) best)) (follows_nothing ps 0) (ended_nothing ps 0)
        ∙ cut_nothing ps text (suc n) best

    go : (x : Bool) → eqb k 0 ≡ x → cond x best (on k) ≡ on k
    go true e = sym (ap on (eqb-true k 0 e) ∙ nothing_on)
    go false e = refl

-- The theorem: alive positions alone find what all positions find.
pub cut_walk_right : (ps : List Position) (held : ℕ) (text : List ℕ) (n : ℕ) (best : Match)
    → cut_walk ps held text n best ≡ walk ps held text n best
unfolding cut_walk walk
cut_walk_right ps held [] n best = refl
cut_walk_right ps held (b ∷ text) n best =
    let found : Option ℕ → Match = λ o. longer o (suc n) best in
    going_on ps (kept ps held b text) text n best
    ∙ cut_same ps (follows ps 0 (kept ps held b text)) (follows ps 0 (keep ps 0 held b)) text (suc n)
    (found (ended_rule ps 0 (kept ps held b text))) (same_next ps held b text)
    ∙ ap (λ (o : Option ℕ). cut_walk ps (follows ps 0 (keep ps 0 held b)) text (suc n) (found o)) (same_ended ps held b text)
    ∙ cut_walk_right ps (follows ps 0 (keep ps 0 held b)) text (suc n) (found (ended_rule ps 0 (keep ps 0 held b)))

pub cut_match : (ps : List Position) (first : ℕ) (text : List ℕ) → cut_walk ps first text 0 no_match ≡ longest_match ps first text
unfolding longest_match
cut_match ps first text = cut_walk_right ps first text 0 no_match

-- ---- the cut walk ends where the longest match ends

ends_some : (ps : List Position) (kept k : ℕ) → EndsRule ps 0 kept k → (j : ℕ) × (ended_rule ps 0 kept ≡ some j)
ends_some ps kept k h = go (ended_rule ps 0 kept) refl (ended-least ps 0 kept)
  where
    go : (o : Option ℕ) → ended_rule ps 0 kept ≡ o → LeastOf (EndsRule ps 0 kept) o → (j : ℕ) × (ended_rule ps 0 kept ≡ some j)
    go none e g = absurd (g k h)
    go (some j) e g = (j, e)

-- With an alive position held, the cut walk goes on.
cut_goes_on : (ps : List Position) (held : ℕ) (text : List ℕ) (q : ℕ) → q ∈ held → q ∈ alive ps text → cut_bytes ps held text ≡ 0 → ⊥
unfolding cut_bytes alive
cut_goes_on ps held [] q h m z = ∈_zero q m
cut_goes_on ps held (b ∷ text) q h m z =
    let some_kept = ne_eqb (kept ps held b text) 0 (λ e. ∈_disjoint held (alive ps (b ∷ text)) q e h m) in
    let one_more = sym (ap (λ (x : Bool). cond x 0 (suc (cut_bytes ps (follows ps 0 (kept ps held b text)) text))) some_kept) ∙ z in
    omega (arith, one_more)

-- Where an alive position is kept and none is held for the rest, a match ends.
pub cut_ends : (ps : List Position) (held b : ℕ) (text : List ℕ) → (bit_and held (alive ps (b ∷ text)) ≡ 0 → ⊥)
    → cut_bytes ps (follows ps 0 (bit_and held (alive ps (b ∷ text)))) text ≡ 0
    → (k : ℕ) × (ended_rule ps 0 (bit_and held (alive ps (b ∷ text))) ≡ some k)
unfolding alive
cut_ends ps held b text some_kept z =
    let m = some_member (kept ps held b text) some_kept in
    let a = in_alive ps b (alive ps text) m.0 (in_both held (alive ps (b ∷ text)) m.0 m.1).1 in
    ⊎_elim
    (λ l. ends_some ps (kept ps held b text) a.0.rule (m.0, a.0, a.1, m.1, l, refl))
    (λ f.
    let n = meets-some a.0.follow (alive ps text) f in
    absurd
    (cut_goes_on ps (follows ps 0 (kept ps held b text)) text n.0
    (follows_in a.1 (kept ps held b text) n.0 m.1 n.1) n.2 z))
    a.3

-- What the cut walk finds, by the bytes that it goes over: nothing more, or a match that ends with the last of them.
abbrev FoundAfter : ℕ → ℕ → Match → Match → Type 0
FoundAfter n zero best m = m ≡ best
FoundAfter n (suc bytes) best m = (k : ℕ) × (m ≡ matched k (n + suc bytes))

cut_found : (ps : List Position) (held : ℕ) (text : List ℕ) (n : ℕ) (best : Match)
    → FoundAfter n (cut_bytes ps held text) best (cut_walk ps held text n best)
unfolding cut_bytes cut_walk longer
cut_found ps held [] n best = refl
cut_found ps held (b ∷ text) n best =
    go (eqb (kept ps held b text) 0) refl (cut_bytes ps (follows ps 0 (kept ps held b text)) text) refl
    (cut_found ps (follows ps 0 (kept ps held b text)) text (suc n) (longer (ended_rule ps 0 (kept ps held b text)) (suc n) best))
  where
    rest : Match
    rest = cut_walk ps (follows ps 0 (kept ps held b text)) text (suc n) (longer (ended_rule ps 0 (kept ps held b text)) (suc n) best)

    go : (x : Bool) → eqb (kept ps held b text) 0 ≡ x → (m : ℕ) → cut_bytes ps (follows ps 0 (kept ps held b text)) text ≡ m
        → FoundAfter (suc n) m (longer (ended_rule ps 0 (kept ps held b text)) (suc n) best) rest
        → FoundAfter n (cond x 0 (suc m)) best (cond x best rest)
    go true e m z h = refl
    go false e zero z h =
        let k = cut_ends ps held b text (eqb-false (kept ps held b text) 0 e) z in
        (k.0, h ∙ ap (λ (o : Option ℕ). longer o (suc n) best) k.1 ∙ ap (matched k.0) (omega arith))
    go false e (suc m) z h = (h.0, h.1 ∙ ap (matched h.0) (omega arith))

-- A match of n bytes is found with n bytes read, and that there is none with no byte read.
pub cut_bytes_right : (ps : List Position) (first : ℕ) (text : List ℕ) → cut_bytes ps first text ≡ match_bytes (longest_match ps first text)
unfolding match_bytes
cut_bytes_right ps first text =
    go (cut_bytes ps first text) (cut_found ps first text 0 no_match) ∙ ap match_bytes (cut_match ps first text)
  where
    go : (m : ℕ) → FoundAfter 0 m no_match (cut_walk ps first text 0 no_match) → m ≡ match_bytes (cut_walk ps first text 0 no_match)
    go zero h = sym (ap match_bytes h)
    go (suc m) h = sym (ap match_bytes h.1 ∙ omega arith)

-- ---- how far the whole walk goes

pub walk_bytes_most : (ps : List Position) (held : ℕ) (text : List ℕ) → walk_bytes ps held text ≤ length text
unfolding walk_bytes
walk_bytes_most ps held [] = omega arith
walk_bytes_most ps held (b ∷ text) = go (eqb (keep ps 0 held b) 0) (walk_bytes_most ps (follows ps 0 (keep ps 0 held b)) text)
  where
    go : (x : Bool) → walk_bytes ps (follows ps 0 (keep ps 0 held b)) text ≤ length text
        → cond x 0 (suc (walk_bytes ps (follows ps 0 (keep ps 0 held b)) text)) ≤ suc (length text)
    go true h = omega arith
    go false h = omega arith

-- The cut walk goes no further than a whole walk that holds as much or more.
cut_walk_bytes : (ps : List Position) (held other : ℕ) (text : List ℕ) → ((i : ℕ) → i ∈ held → i ∈ other)
    → cut_bytes ps held text ≤ walk_bytes ps other text
unfolding cut_bytes walk_bytes
cut_walk_bytes ps held other [] f = omega arith
cut_walk_bytes ps held other (b ∷ text) f =
    go (eqb (kept ps held b text) 0) refl (eqb (keep ps 0 other b) 0) refl
    (cut_walk_bytes ps (follows ps 0 (kept ps held b text)) (follows ps 0 (keep ps 0 other b)) text
    (follows-more ps (kept ps held b text) (keep ps 0 other b) more))
  where
    more : (j : ℕ) → j ∈ kept ps held b text → j ∈ keep ps 0 other b
    more j h = let k = in_keep ps 0 held b j (kept_whole ps held b text j h) in keep_in k.1 other b (f j k.2) k.3

    cut_rest : ℕ
    cut_rest = cut_bytes ps (follows ps 0 (kept ps held b text)) text

    rest : ℕ
    rest = walk_bytes ps (follows ps 0 (keep ps 0 other b)) text

    go : (x : Bool) → eqb (kept ps held b text) 0 ≡ x → (y : Bool) → eqb (keep ps 0 other b) 0 ≡ y → cut_rest ≤ rest
        → cond x 0 (suc cut_rest) ≤ cond y 0 (suc rest)
    go true e y z h = omega arith
    go false e true z h =
        let m = some_member (kept ps held b text) (eqb-false (kept ps held b text) 0 e) in
        ∈_zero m.0 (subst (λ (s : ℕ). m.0 ∈ s) (eqb-true (keep ps 0 other b) 0 z) (more m.0 m.1))
    go false e false z h = omega arith

-- The bytes that the walk goes over are all that it needs.
walk-front-held : (ps : List Position) (held : ℕ) (text : List ℕ) (n : ℕ) (best : Match)
    → walk ps held (take (walk_bytes ps held text) text) n best ≡ walk ps held text n best
unfolding walk walk_bytes longer
walk-front-held ps held [] n best = refl
walk-front-held ps held (b ∷ text) n best =
    go (eqb (keep ps 0 held b) 0) refl
    (walk-front-held ps (follows ps 0 (keep ps 0 held b)) text (suc n) (longer (ended_rule ps 0 (keep ps 0 held b)) (suc n) best))
  where
    rest : ℕ → Match
    rest k = walk ps (follows ps 0 k) text (suc n) (longer (ended_rule ps 0 k) (suc n) best)

    stops : rest 0 ≡ best
    stops = rw (follows_nothing ps 0, ended_nothing ps 0) (walk_nothing ps text (suc n) best)

    go : (x : Bool) → eqb (keep ps 0 held b) 0 ≡ x
        → walk ps (follows ps 0 (keep ps 0 held b)) (take (walk_bytes ps (follows ps 0 (keep ps 0 held b)) text) text) (suc n)
        (longer (ended_rule ps 0 (keep ps 0 held b)) (suc n) best)
        ≡ walk ps held (b ∷ text) n best
        → walk ps held (take (cond x 0 (suc (walk_bytes ps (follows ps 0 (keep ps 0 held b)) text))) (b ∷ text)) n best ≡ walk ps held (b ∷ text) n best
    go false e h = h
    go true e h = sym (ap rest (eqb-true (keep ps 0 held b) 0 e) ∙ stops)

pub walk-front : (ps : List Position) (first : ℕ) (text : List ℕ)
    → longest_match ps first (take (walk_bytes ps first text) text) ≡ longest_match ps first text
unfolding longest_match
walk-front ps first text = walk-front-held ps first text 0 no_match

-- A match ends within the walk.
pub match_bytes_most : (ps : List Position) (first : ℕ) (text : List ℕ)
    → match_bytes (longest_match ps first text) ≤ walk_bytes ps first text
match_bytes_most ps first text = omega (arith, cut_bytes_right ps first text, cut_walk_bytes ps first first text (λ i h. h))

-- ---- what one walk tells

pub not_both : {X : Type 0} {m : Match} {k : ℕ} → ends_with m ≡ in_vain k → X
not_both e = let z : ◌≡◌ {A = ℕ} 0 1 = cc in absurd (omega arith)

pub told_match : (n : ℕ) (m m' : Match) → told_by n m ≡ ends_with m' → (m ≡ m') × (vain n m ≡ 0)
unfolding told_by
told_match n m m' = go (eqb (vain n m) 0) refl
  where
    go : (x : Bool) → eqb (vain n m) 0 ≡ x → cond x (ends_with m) (in_vain (vain n m)) ≡ ends_with m' → (m ≡ m') × (vain n m ≡ 0)
    go true e h = (cc, eqb-true (vain n m) 0 e)
    go false e h = not_both (sym h)

pub told-vain : (n k : ℕ) (m : Match) → told_by n m ≡ in_vain k → (vain n m ≡ k) × (n ≡ k)
unfolding told_by
told-vain n k m = go (eqb (vain n m) 0) refl
  where
    go : (x : Bool) → eqb (vain n m) 0 ≡ x → cond x (ends_with m) (in_vain (vain n m)) ≡ in_vain k → (vain n m ≡ k) × (n ≡ k)
    go true e h = not_both h
    go false e h =
        let v : vain n m ≡ k = cc in
        (v, ⊎_elim (λ w. absurd (eqb-false (vain n m) 0 e w.1)) (λ w. sym w ∙ v) (match_or-vain n m))

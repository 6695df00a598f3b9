-- The position automaton of a regex (Glushkov's): a text that is not empty is a word of the regex just where a chain of positions,
-- from a first one along follow sets to a last one, spells it. Of one regex only; all rules of a sheet are joined elsewhere.
use Rattle.std.specs.Prelude.{◌≡◌, true, ◌⊎◌, ◌↔◌, ℕ, ◌+◌, ◌≤◌, ◌^◌}
use Rattle.std.proofs.Math.Path.{refl, ap, ap₂}
use Rattle.std.proofs.Common.{sym, ◌∙◌, subst}
use mathlib.Core.List.{List, [], ◌∷◌, ◌++◌, append-nil, cons≢nil}
use Rattle.std.proofs.Math.Logic.{inl, inr, ⊎_elim}
use Rattle.basics.specs.Bits.{◌∈◌}
use Rattle.basics.proofs.laws.BitLaws.{∈_zero, ∈_one, ∈_self}
use Rattle.sheet.specs.Regex.{Regex, empty, class, concat, union, star, class_count}
use Rattle.lexer.specs.Words.{Word, empty_word, one_byte, one_then_other, of_first, of_second, star_none, star_more}
use Rattle.lexer.specs.Positions.{nullable, first, last, follow}
use Rattle.lexer.proofs.laws.EmptyWord.{nullable_word, word_nullable}
use Rattle.lexer.proofs.laws.PositionSets.{concat_first_left, concat_first_right, concat_last_left, concat_last_right}
use Rattle.lexer.proofs.laws.PositionSets.{concat_follow_join, concat_follow_left, concat_follow_right, concat_first-cases}
use Rattle.lexer.proofs.laws.PositionSets.{concat_last-cases, concat_follow-cases}
use Rattle.lexer.proofs.laws.PositionSets.{union_first_left, union_first_right, union_last_left, union_last_right}
use Rattle.lexer.proofs.laws.PositionSets.{union_follow_left, union_follow_right, union_first-cases, union_last-cases}
use Rattle.lexer.proofs.laws.PositionSets.{union_follow-cases}
use Rattle.lexer.proofs.laws.PositionSets.{star_follow, star_follow_again, star_follow-cases, Within, not_both, first_within}
use Rattle.lexer.proofs.laws.PositionSets.{last_within, follow_within}

-- Where a chain may begin, which position may come next after which, and where it may end.
pub record Automaton : Type 1 where
  pub begins : ℕ → Type 0
  pub leads : ℕ → ℕ → Type 0
  pub ends : ℕ → Type 0

-- That of a regex whose positions start at a base.
abbrev pub of_regex : Regex → ℕ → Automaton
of_regex r base = record { begins = λ q. q ∈ first r base; leads = λ p q. q ∈ follow r base p; ends = λ p. p ∈ last r base }

-- `Has p b`: the class of position p has the byte b.
module _ (Has : ℕ → ℕ → Type 0) where
  -- After position p, the bytes lead to an end.
  abbrev pub ChainAfter : Automaton → ℕ → List ℕ → Type 0
  ChainAfter A p [] = A.ends p
  ChainAfter A p (b ∷ u) = (q : ℕ) × A.leads p q × Has q b × ChainAfter A q u

  -- A chain spells the text, which is not empty.
  abbrev pub Chain : Automaton → List ℕ → Type 0
  Chain A [] = ⊥
  Chain A (b ∷ u) = (q : ℕ) × A.begins q × Has q b × ChainAfter A q u

  -- The regex's byte classes, from a base on, are those of `Has`.
  abbrev pub Agrees : Regex → ℕ → Type 0
  Agrees empty base = Unit
  Agrees (class low high) base = (b : ℕ) → Has base b ↔ ((low ≤ b) × (b ≤ high))
  Agrees (concat r s) base = Agrees r base × Agrees s (base + class_count r)
  Agrees (union r s) base = Agrees r base × Agrees s (base + class_count r)
  Agrees (star r) base = Agrees r base

  -- A chain of one automaton whose positions keep to I, read as one of another.
  pub after-map : (A B : Automaton) (I : ℕ → Type 0) → ((p q : ℕ) → I p → A.leads p q → B.leads p q × I q)
      → ((p : ℕ) → I p → A.ends p → B.ends p) → (p : ℕ) (u : List ℕ) → I p → ChainAfter A p u → ChainAfter B p u
  after-map A B I f g p [] i h = g p i h
  after-map A B I f g p (b ∷ u) i h =
      let s = f p h.0 i h.1 in (h.0, s.0, h.2, after-map A B I f g h.0 u s.1 h.3)

  -- Such a chain comes to an end in I.
  pub after_end : (A : Automaton) (I : ℕ → Type 0) → ((p q : ℕ) → I p → A.leads p q → I q)
      → (p : ℕ) (u : List ℕ) → I p → ChainAfter A p u → (q : ℕ) × I q × A.ends q
  after_end A I f p [] i h = (p, i, h)
  after_end A I f p (b ∷ u) i h = after_end A I f h.0 u (f p h.0 i h.1) h.3

  -- A chain of an automaton that is a part of another.
  pub after-part : (A B : Automaton) → ((p q : ℕ) → A.leads p q → B.leads p q) → ((p : ℕ) → A.ends p → B.ends p)
      → (p : ℕ) (u : List ℕ) → ChainAfter A p u → ChainAfter B p u
  after-part A B f g p u h = after-map A B (λ i. Unit) (λ p q i x. (f p q x, tt)) (λ p i x. g p x) p u tt h

  pub chain_part : (A B : Automaton) → ((q : ℕ) → A.begins q → B.begins q) → ((p q : ℕ) → A.leads p q → B.leads p q)
      → ((p : ℕ) → A.ends p → B.ends p) → (w : List ℕ) → Chain A w → Chain B w
  chain_part A B e f g [] h = absurd h
  chain_part A B e f g (b ∷ u) h = (h.0, e h.0 h.1, h.2, after-part A B f g h.0 u h.3)

  -- A chain of A and then one of B is one of G, where G leads from A's ends to B's beginnings.
  after_join : (A B G : Automaton) → ((p q : ℕ) → A.leads p q → G.leads p q) → ((p q : ℕ) → A.ends p → B.begins q → G.leads p q)
      → ((p q : ℕ) → B.leads p q → G.leads p q) → ((p : ℕ) → B.ends p → G.ends p)
      → (p : ℕ) (u v : List ℕ) → ChainAfter A p u → Chain B v → ChainAfter G p (u ++ v)
  after_join A B G f j k g p [] [] h c = absurd c
  after_join A B G f j k g p [] (b ∷ v) h c = (c.0, j p c.0 h c.1, c.2, after-part B G k g c.0 v c.3)
  after_join A B G f j k g p (a ∷ u) v h c = (h.0, f p h.0 h.1, h.2, after_join A B G f j k g h.0 u v h.3 c)

  chain_join : (A B G : Automaton) → ((q : ℕ) → A.begins q → G.begins q) → ((p q : ℕ) → A.leads p q → G.leads p q)
      → ((p q : ℕ) → A.ends p → B.begins q → G.leads p q) → ((p q : ℕ) → B.leads p q → G.leads p q)
      → ((p : ℕ) → B.ends p → G.ends p) → (u v : List ℕ) → Chain A u → Chain B v → Chain G (u ++ v)
  chain_join A B G e f j k g [] v h c = absurd h
  chain_join A B G e f j k g (a ∷ u) v h c = (h.0, e h.0 h.1, h.2, after_join A B G f j k g h.0 u v h.3 c)

  -- A chain of the regex whose positions start at the base.
  abbrev pub Spelled : Regex → ℕ → List ℕ → Type 0
  Spelled r base w = Chain (of_regex r base) w

module _ (Has : ℕ → ℕ → Type 0) where
  -- A word is spelled, part by part. The empty word is spelled by no chain, so it is set apart.
  module _ (r s : Regex) (base : ℕ) where
    concat_case : (u v w : List ℕ) → w ≡ u ++ v → (u ≡ [] → nullable r ≡ true) → (v ≡ [] → nullable s ≡ true)
        → (u ≡ []) ⊎ Spelled Has r base u → (v ≡ []) ⊎ Spelled Has s (base + class_count r) v → (w ≡ []) ⊎ Spelled Has (concat r s) base w
    concat_case u v w d nr ns (inl e) (inl f) = inl (d ∙ ap₂ ◌++◌ e f)
    concat_case u v w d nr ns (inl e) (inr k) =
        inr (subst (Spelled Has (concat r s) base) (sym (d ∙ ap (λ (x : List ℕ). x ++ v) e))
        (chain_part Has (of_regex s (base + class_count r)) (of_regex (concat r s) base)
        (concat_first_right r s base (nr e)) (concat_follow_right r s base) (concat_last_right r s base) v k))
    concat_case u v w d nr ns (inr h) (inl f) =
        inr (subst (Spelled Has (concat r s) base) (sym (d ∙ ap (λ (x : List ℕ). u ++ x) f ∙ append-nil u))
        (chain_part Has (of_regex r base) (of_regex (concat r s) base)
        (concat_first_left r s base) (concat_follow_left r s base) (concat_last_left r s base (ns f)) u h))
    concat_case u v w d nr ns (inr h) (inr k) =
        inr (subst (Spelled Has (concat r s) base) (sym d)
        (chain_join Has (of_regex r base) (of_regex s (base + class_count r)) (of_regex (concat r s) base)
        (concat_first_left r s base) (concat_follow_left r s base) (concat_follow_join r s base) (concat_follow_right r s base)
        (concat_last_right r s base)
        u v h k))

    union_first_part : (w : List ℕ) → Spelled Has r base w → Spelled Has (union r s) base w
    union_first_part =
        chain_part Has (of_regex r base) (of_regex (union r s) base)
        (union_first_left r s base) (union_follow_left r s base) (union_last_left r s base)

    union_second_part : (w : List ℕ) → Spelled Has s (base + class_count r) w → Spelled Has (union r s) base w
    union_second_part =
        chain_part Has (of_regex s (base + class_count r)) (of_regex (union r s) base)
        (union_first_right r s base) (union_follow_right r s base) (union_last_right r s base)

  star_case : (r : Regex) (base : ℕ) (u v w : List ℕ) → w ≡ u ++ v → (u ≡ []) ⊎ Spelled Has r base u
      → (v ≡ []) ⊎ Spelled Has (star r) base v
      → (w ≡ []) ⊎ Spelled Has (star r) base w
  unfolding first last
  star_case r base u v w d (inl e) (inl f) = inl (d ∙ ap₂ ◌++◌ e f)
  star_case r base u v w d (inl e) (inr k) = inr (subst (Spelled Has (star r) base) (sym (d ∙ ap (λ (x : List ℕ). x ++ v) e)) k)
  star_case r base u v w d (inr h) (inl f) =
      inr (subst (Spelled Has (star r) base) (sym (d ∙ ap (λ (x : List ℕ). u ++ x) f ∙ append-nil u))
      (chain_part Has (of_regex r base) (of_regex (star r) base) (λ q x. x) (star_follow r base) (λ p x. x) u h))
  star_case r base u v w d (inr h) (inr k) =
      inr (subst (Spelled Has (star r) base) (sym d)
      (chain_join Has (of_regex r base) (of_regex (star r) base) (of_regex (star r) base)
      (λ q x. x) (star_follow r base) (star_follow_again r base) (λ p q x. x) (λ p x. x) u v h k))

  pub word_spelled : {r : Regex} {w : List ℕ} → Word r w → (base : ℕ) → Agrees Has r base → (w ≡ []) ⊎ Spelled Has r base w
  unfolding first last follow
  word_spelled empty_word base g = inl refl
  word_spelled (one_byte {b = b} l h) base g = inr (base, ∈_self base, (g b).1 (l, h), ∈_self base)
  word_spelled (one_then_other {r = r} {s = s} {u = u} {v = v} {w = w} p q d) base g =
      concat_case r s base u v w d (word_nullable p) (word_nullable q) (word_spelled p base g.0)
      (word_spelled q (base + class_count r) g.1)
  word_spelled (of_first {r = r} {s = s} {w = w} p) base g =
      ⊎_elim inl (λ h. inr (union_first_part r s base w h)) (word_spelled p base g.0)
  word_spelled (of_second {r = r} {s = s} {w = w} p) base g =
      ⊎_elim inl (λ h. inr (union_second_part r s base w h)) (word_spelled p (base + class_count r) g.1)
  word_spelled star_none base g = inl refl
  word_spelled (star_more {r = r} {u = u} {v = v} {w = w} p q d) base g =
      star_case r base u v w d (word_spelled p base g) (word_spelled q base g)

  -- What is spelled is a word. A chain of a union from a position of one part is one of that part.
  module _ (r s : Regex) (base : ℕ) where
    union_after_first : (p : ℕ) (u : List ℕ) → Within base (class_count r) p → ChainAfter Has (of_regex (union r s) base) p u
        → ChainAfter Has (of_regex r base) p u
    union_after_first =
        after-map Has (of_regex (union r s) base) (of_regex r base) (Within base (class_count r))
        (λ p q i x. ⊎_elim
        (λ y. (y, (follow_within r base p q y).1))
        (λ y. not_both base (class_count r) (class_count s) p i (follow_within s (base + class_count r) p q y).0)
        (union_follow-cases r s base p q x))
        (λ p i x. ⊎_elim
        (λ y. y)
        (λ y. not_both base (class_count r) (class_count s) p i (last_within s (base + class_count r) p y))
        (union_last-cases r s base p x))

    union_after_second : (p : ℕ) (u : List ℕ) → Within (base + class_count r) (class_count s) p
        → ChainAfter Has (of_regex (union r s) base) p u
        → ChainAfter Has (of_regex s (base + class_count r)) p u
    union_after_second =
        after-map Has (of_regex (union r s) base) (of_regex s (base + class_count r)) (Within (base + class_count r) (class_count s))
        (λ p q i x. ⊎_elim
        (λ y. not_both base (class_count r) (class_count s) p (follow_within r base p q y).0 i)
        (λ y. (y, (follow_within s (base + class_count r) p q y).1))
        (union_follow-cases r s base p q x))
        (λ p i x. ⊎_elim
        (λ y. not_both base (class_count r) (class_count s) p (last_within r base p y) i)
        (λ y. y)
        (union_last-cases r s base p x))

    -- The same of the second part of a concatenation.
    concat_after_second : (p : ℕ) (u : List ℕ) → Within (base + class_count r) (class_count s) p
        → ChainAfter Has (of_regex (concat r s) base) p u
        → ChainAfter Has (of_regex s (base + class_count r)) p u
    concat_after_second =
        after-map Has (of_regex (concat r s) base) (of_regex s (base + class_count r)) (Within (base + class_count r) (class_count s))
        (λ p q i x. ⊎_elim
        (λ y. not_both base (class_count r) (class_count s) p (follow_within r base p q y).0 i)
        (⊎_elim
        (λ y. (y, (follow_within s (base + class_count r) p q y).1))
        (λ y. not_both base (class_count r) (class_count s) p (last_within r base p y.0) i))
        (concat_follow-cases r s base p q x))
        (λ p i x. ⊎_elim
        (λ y. not_both base (class_count r) (class_count s) p (last_within r base p y.1) i)
        (λ y. y)
        (concat_last-cases r s base p x))

    -- A chain of a concatenation from a position of its first part: one of that part, and then one of the second, if any.
    concat_split : (p : ℕ) (u : List ℕ) → Within base (class_count r) p → ChainAfter Has (of_regex (concat r s) base) p u
        → (u₁ : List ℕ) × (v : List ℕ) × (u ≡ u₁ ++ v) × ChainAfter Has (of_regex r base) p u₁
        × (((v ≡ []) × (nullable s ≡ true)) ⊎ Spelled Has s (base + class_count r) v)
    concat_split p [] i h =
        ⊎_elim
        (λ y. ([], [], refl, y.1, inl (refl, y.0)))
        (λ y. not_both base (class_count r) (class_count s) p i (last_within s (base + class_count r) p y))
        (concat_last-cases r s base p h)
    concat_split p (b ∷ u) i h =
        ⊎_elim
        (λ y.
        let k = concat_split h.0 u (follow_within r base p h.0 y).1 h.3 in
        (b ∷ k.0, k.1, ap (λ (x : List ℕ). b ∷ x) k.2, (h.0, y, h.2, k.3), k.4))
        (⊎_elim
        (λ y. not_both base (class_count r) (class_count s) p i (follow_within s (base + class_count r) p h.0 y).0)
        (λ y. (
          [],
          b ∷ u,
          refl,
          y.0,
          inr (h.0, y.1, h.2, concat_after_second h.0 u (first_within s (base + class_count r) h.0 y.1) h.3),
        )))
        (concat_follow-cases r s base p h.0 h.1)

    second_word : ((w : List ℕ) → Spelled Has s (base + class_count r) w → Word s w) → (v : List ℕ)
        → ((v ≡ []) × (nullable s ≡ true)) ⊎ Spelled Has s (base + class_count r) v → Word s v
    second_word ih v (inl e) = subst (Word s) (sym e.0) (nullable_word s e.1)
    second_word ih v (inr h) = ih v h

    concat_word : ((w : List ℕ) → Spelled Has r base w → Word r w) → ((w : List ℕ) → Spelled Has s (base + class_count r) w → Word s w)
        → (w : List ℕ) → Spelled Has (concat r s) base w → Word (concat r s) w
    concat_word f g [] h = absurd h
    concat_word f g (b ∷ u) h =
        ⊎_elim
        (λ y.
        let k = concat_split h.0 u (first_within r base h.0 y) h.3 in
        one_then_other (f (b ∷ k.0) (h.0, y, h.2, k.3)) (second_word g k.1 k.4) (ap (λ (x : List ℕ). b ∷ x) k.2))
        (λ y.
        let i = first_within s (base + class_count r) h.0 y.1 in
        one_then_other (nullable_word r y.0) (g (b ∷ u) (h.0, y.1, h.2, concat_after_second h.0 u i h.3)) refl)
        (concat_first-cases r s base h.0 h.1)

    union_word : ((w : List ℕ) → Spelled Has r base w → Word r w) → ((w : List ℕ) → Spelled Has s (base + class_count r) w → Word s w)
        → (w : List ℕ) → Spelled Has (union r s) base w → Word (union r s) w
    union_word f g [] h = absurd h
    union_word f g (b ∷ u) h =
        ⊎_elim
        (λ y. of_first (f (b ∷ u) (h.0, y, h.2, union_after_first h.0 u (first_within r base h.0 y) h.3)))
        (λ y. of_second (g (b ∷ u) (h.0, y, h.2, union_after_second h.0 u (first_within s (base + class_count r) h.0 y) h.3)))
        (union_first-cases r s base h.0 h.1)

  -- A chain of a star: one of its part, and then a word of the star.
  star_split : (r : Regex) (base : ℕ) → ((w : List ℕ) → Spelled Has r base w → Word r w) → (p : ℕ) (u : List ℕ)
      → ChainAfter Has (of_regex (star r) base) p u
      → (u₁ : List ℕ) × (v : List ℕ) × (u ≡ u₁ ++ v) × ChainAfter Has (of_regex r base) p u₁ × Word (star r) v
  unfolding last
  star_split r base ih p [] h = ([], [], refl, h, star_none)
  star_split r base ih p (b ∷ u) h =
      let k = star_split r base ih h.0 u h.3 in
      ⊎_elim
      (λ y. (b ∷ k.0, k.1, ap (λ (x : List ℕ). b ∷ x) k.2, (h.0, y, h.2, k.3), k.4))
      (λ y. ([], b ∷ u, refl, y.0, star_more (ih (b ∷ k.0) (h.0, y.1, h.2, k.3)) k.4 (ap (λ (x : List ℕ). b ∷ x) k.2)))
      (star_follow-cases r base p h.0 h.1)

  star_word : (r : Regex) (base : ℕ) → ((w : List ℕ) → Spelled Has r base w → Word r w) → (w : List ℕ) → Spelled Has (star r) base w
      → Word (star r) w
  unfolding first
  star_word r base f [] h = absurd h
  star_word r base f (b ∷ u) h =
      let k = star_split r base f h.0 u h.3 in
      star_more (f (b ∷ k.0) (h.0, h.1, h.2, k.3)) k.4 (ap (λ (x : List ℕ). b ∷ x) k.2)

  empty_chain : (base : ℕ) (w : List ℕ) → Spelled Has empty base w → Word empty w
  unfolding first
  empty_chain base [] h = absurd h
  empty_chain base (b ∷ u) h = ∈_zero h.0 h.1

  class_word : (low high base b q : ℕ) (u : List ℕ) → Agrees Has (class low high) base → q ∈ 2 ^ base → Has q b
      → ChainAfter Has (of_regex (class low high) base) q u → Word (class low high) (b ∷ u)
  unfolding follow
  class_word low high base b q [] g i k h =
      let z = (g b).0 (subst (λ (x : ℕ). Has x b) (sym (∈_one base q i)) k) in one_byte z.0 z.1
  class_word low high base b q (x ∷ u) g i k h = ∈_zero h.0 h.1

  class_chain : (low high base : ℕ) → Agrees Has (class low high) base → (w : List ℕ) → Spelled Has (class low high) base w
      → Word (class low high) w
  unfolding first
  class_chain low high base g [] h = absurd h
  class_chain low high base g (b ∷ u) h = class_word low high base b h.0 u g h.1 h.2 h.3

  pub spelled_word : (r : Regex) (base : ℕ) → Agrees Has r base → (w : List ℕ) → Spelled Has r base w → Word r w
  spelled_word empty base g w h = empty_chain base w h
  spelled_word (class low high) base g w h = class_chain low high base g w h
  spelled_word (concat r s) base g w h =
      concat_word r s base (spelled_word r base g.0) (spelled_word s (base + class_count r) g.1) w h
  spelled_word (union r s) base g w h = union_word r s base (spelled_word r base g.0) (spelled_word s (base + class_count r) g.1) w h
  spelled_word (star r) base g w h = star_word r base (spelled_word r base g) w h

  -- The theorem: a text that is not empty is a word of the regex just where a chain of its positions spells it.
  pub word_chain : (r : Regex) (base : ℕ) → Agrees Has r base → (b : ℕ) (u : List ℕ) → Word r (b ∷ u) ↔ Spelled Has r base (b ∷ u)
  word_chain r base g b u = (λ h. ⊎_elim (λ e. absurd (cons≢nil e)) (λ x. x) (word_spelled h base g), spelled_word r base g (b ∷ u))

-- What rows unfold to: the image's rows to the rule sequences that spell what the rows by token unfold to. That a row has at most
-- one production a token is a hypothesis here; what the rows by token unfold to is said in the normal form's crate.
use Rattle.std.specs.Prelude.{◌≡◌, refl, true, ◌↔◌, ℕ, ◌<◌, length}
use Rattle.std.proofs.Math.Path.{sym, ap, ap₂, subst}
use Rattle.std.proofs.Common.{◌∙◌, arith}
use mathlib.Core.List.{List, [], ◌∷◌, ◌++◌, map, map-append, nil≢cons, cons≢nil, head-eq_of_cons-eq, tail-eq_of_cons-eq, Memᴰ}
use Rattle.std.proofs.Math.Option.{Option, none, some}
use Rattle.basics.specs.Lists.{All}
use Rattle.sheet.specs.Sheet.{Rule}
use Rattle.normal_form.specs.Productions.{Production, Row, row_of, production_of}
use Rattle.normal_form.specs.Unfolds.{Unfolds, none_pending, unfold_epsilon, unfold_production}
use Rattle.image.specs.Fusion.{fused}
use Rattle.normal_form.proofs.laws.ProductionLaws.{Found, production_found}
use Rattle.basics.proofs.laws.Members.{all-append}
use Rattle.image.specs.Numbering.{numbered}
use Rattle.image.proofs.laws.NumberingLaws.{TailsInside}
use Rattle.image.specs.laws.Simulation.{tail_of}
use Rattle.image.proofs.laws.Simulation.{Simulates, tail_numbers, TailKnown, image_simulates}
use Rattle.image.specs.Unfolding.{StartUnfolds, SpellsTokens, no_tokens, token_more}
use Rattle.image.proofs.laws.FusionLaws.{Returns}

-- In each row at most one production begins with a token.
abbrev pub OnePerToken : List Row → Type 0
OnePerToken rows =
    (n : ℕ) (p q : Production) → Memᴰ p (row_of rows n).productions → Memᴰ q (row_of rows n).productions → p.head ≡ q.head
    → p.tail ≡ q.tail

-- A rule sequence spells a token sequence to which the rows by token unfold.
abbrev pub SpellsUnfolded : List Rule → List Row → List ℕ → List ℕ → Type 0
SpellsUnfolded rules rows pending ks = (ts : List ℕ) × Unfolds rows pending ts × SpellsTokens rules ks ts

-- ---- from the image's rows to the rows by token

module _ (rules : List Rule) (rows image : List Row) (number : ℕ → ℕ) (Known : ℕ → Type 0)
    (s : Simulates rules rows image number Known) where
  to_tokens : {pending' ks : List ℕ} → Unfolds image pending' ks → (pending : List ℕ) → pending' ≡ map number pending → All Known pending
      → SpellsUnfolded rules rows pending ks
  to_tokens none_pending [] e k = ([], none_pending, no_tokens)
  to_tokens none_pending (n ∷ pending) e k = absurd (nil≢cons e)
  to_tokens (unfold_epsilon empty u) [] e k = absurd (cons≢nil e)
  to_tokens (unfold_epsilon {n = m} empty u) (n ∷ pending) e k =
      let r = to_tokens u pending (tail-eq_of_cons-eq e) k.1 in (
        r.0,
        unfold_epsilon (sym (s.same_epsilon n k.0) ∙ subst (λ (z : ℕ). (row_of image z).has_epsilon ≡ true) (head-eq_of_cons-eq e) empty) r.1,
        r.2,
      )
  to_tokens (unfold_production m u) [] e k = absurd (cons≢nil e)
  to_tokens (unfold_production {pending = rest'} {p = p} m u) (n ∷ pending) e k =
      let o = s.sources n k.0 p (subst (λ (z : ℕ). Memᴰ p (row_of image z).productions) (head-eq_of_cons-eq e) m) in
      let q = o.0 in
      let same : p.tail ++ rest' ≡ map number (q.tail ++ pending) =
      ap₂ ◌++◌ o.3 (tail-eq_of_cons-eq e) ∙ sym (map-append number q.tail pending) in
      let r = to_tokens u (q.tail ++ pending) same (all-append Known q.tail pending o.4 k.1) in
      (q.head ∷ r.0, unfold_production o.1 r.1, token_more o.2.at o.2.returns r.2)

  -- One production taken: the rule's production in the image is the token's, which is the only one.
  taken : OnePerToken rows → (n : ℕ) (q : Production) (r : ℕ) (pending ks : List ℕ) → Known n → All Known pending
      → Memᴰ q (row_of rows n).productions
      → Returns rules r q.head → (All Known (q.tail ++ pending) → Unfolds image (map number (q.tail ++ pending)) ks)
      → Unfolds image (number n ∷ map number pending) (r ∷ ks)
  taken one n q r pending ks kn kp m h rest =
      go (production_of q.head (row_of rows n).productions) (production_found q.head (row_of rows n).productions)
      (s.closed n kn r q.head h)
      (production_of r (row_of image (number n)).productions) (production_found r (row_of image (number n)).productions)
      (s.same_production n kn r q.head h)
    where
      go : (o : Option Production) → Found q.head (row_of rows n).productions o → TailKnown Known o
          → (i : Option Production) → Found r (row_of image (number n)).productions i → tail_of i ≡ tail_numbers number o
          → Unfolds image (number n ∷ map number pending) (r ∷ ks)
      go none f k i g e = absurd (f q m refl)
      go (some p) f k none g e = let x : ◌≡◌ {A = ℕ} 0 1 = cc in absurd (omega arith)
      go (some p) f k (some p') g e =
          let same : p.tail ≡ q.tail = one n p q f.0 m f.1 in
          let tails : p'.tail ≡ map number p.tail = cc in
          let joined : p'.tail ++ map number pending ≡ map number (q.tail ++ pending) =
          ap (λ (l : List ℕ). l ++ map number pending) (tails ∙ ap (map number) same) ∙ sym (map-append number q.tail pending) in
          subst (λ (z : ℕ). Unfolds image (number n ∷ map number pending) (z ∷ ks)) g.1
          (unfold_production g.0
          (subst (λ (l : List ℕ). Unfolds image l ks) (sym joined)
          (rest (all-append Known q.tail pending (subst (All Known) same k) kp))))

  from_tokens : OnePerToken rows → {pending ts : List ℕ} → Unfolds rows pending ts → {ks : List ℕ} → SpellsTokens rules ks ts
      → All Known pending
      → Unfolds image (map number pending) ks
  from_tokens one none_pending no_tokens k = none_pending
  from_tokens one (unfold_epsilon {n = n} empty u) sp k = unfold_epsilon (s.same_epsilon n k.0 ∙ empty) (from_tokens one u sp k.1)
  from_tokens one (unfold_production {n = n} {pending = pending} {p = q} m u) (token_more {k = r} {ks = ks} {rule = rule} at returns sp) k =
      taken one n q r pending ks k.0 k.1 m (record { rule = rule; at = at; returns = returns }) (λ known. from_tokens one u sp known)

  -- The image's start unfolds to the rule sequences that spell what the rows by token unfold to.
  pub start_unfolds : OnePerToken rows → (ks : List ℕ) → StartUnfolds image ks ↔ SpellsUnfolded rules rows (0 ∷ []) ks
  start_unfolds one ks =
      let start : 0 ∷ [] ≡ map number (0 ∷ []) = ap (λ (n : ℕ). n ∷ []) (sym s.start_number) in (
        λ u. to_tokens u (0 ∷ []) start (s.start_known, tt),
        λ r. subst (λ (l : List ℕ). Unfolds image l ks) (sym start) (from_tokens one r.1 r.2 (s.start_known, tt)),
      )

-- For the image's rows as they are made.
pub image_unfolds : (rules : List Rule) (rows : List Row) → TailsInside rows → 0 < length rows → OnePerToken rows → (ks : List ℕ)
    → StartUnfolds (numbered (fused rules rows)) ks ↔ SpellsUnfolded rules rows (0 ∷ []) ks
image_unfolds rules rows inside some_rows one ks =
    start_unfolds rules rows (numbered (fused rules rows)) _ _ (image_simulates rules rows inside some_rows) one ks

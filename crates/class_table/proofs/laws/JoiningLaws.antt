-- One position more: where a position joins, the tables hold it beside those that they held. How it is stored is not said here.
use Rattle.std.specs.Prelude.{◌≡◌, refl, Bool, true, false, ◌&&◌, List, [], ◌∷◌, ◌++◌, ◌⊎◌, ℕ, ◌+◌, ◌%◌, ◌^◌, ◌<◌, eqb, ltb, length, get_or}
use Rattle.std.proofs.Common.{sym, ap, ◌∙◌, inl, inr, ⊎_elim, arith, length-append, eq-eqb, ne_eqb, lt-ltb, le-ltb}
use Rattle.std.proofs.Math.Bool.{xor}
use Rattle.std.proofs.Math.Bool as B
use Rattle.std.proofs.Math.ListN.{get_or-append}
use Rattle.std.proofs.lemmas.List.{get_or_at}
use Rattle.basics.specs.Bits.{bit}
use Rattle.basics.proofs.laws.BitLaws.{bit-xor, bit_one_if}
use Rattle.basics.proofs.laws.Order.{compare_cases, lt-or-le}
use Rattle.lexer.specs.Positions.{Position}
use Rattle.class_table.specs.Filling.{edge}
use Rattle.class_table.specs.Holding.{position, no_position, Joined, Holding}

-- What is toggled with nothing stays.
pub false-xor : (p : Bool) → xor false p ≡ p
unfolding xor
false-xor true = refl
false-xor false = refl

pub xor-false : (p : Bool) → xor p false ≡ p
unfolding xor
xor-false true = refl
xor-false false = refl

class_more : (f : ℕ → Bool) (i j : ℕ) → xor (ltb j i && f j) (f i && eqb i j) ≡ (ltb j (i + 1) && f j)
class_more f i j = go (compare_cases i j)
  where
    go : (i < j) ⊎ ((i ≡ j) ⊎ (j < i)) → xor (ltb j i && f j) (f i && eqb i j) ≡ (ltb j (i + 1) && f j)
    go (inl h) =
        rw (le-ltb j i (omega arith), ne_eqb i j (λ e. omega arith), B.and-false, le-ltb j (i + 1) (omega arith)) (false-xor false)
    go (inr (inl e)) =
        rw (← e, le-ltb i i (omega arith), eq-eqb i i refl, B.and-true, lt-ltb i (i + 1) (omega arith)) (false-xor (f i))
    go (inr (inr h)) =
        rw (lt-ltb j i h, ne_eqb i j (λ e. omega arith), B.and-false, lt-ltb j (i + 1) (omega arith)) (xor-false (f j))

-- ---- one position more

module _ (ps : List Position) (p : Position) (n : ℕ) (size : length ps ≡ n) where
  abbrev more : List Position
  more = ps ++ (p ∷ [])

  more_below : (k : ℕ) → k < n → get_or more k no_position ≡ get_or ps k no_position
  more_below k h = get_or-append ps (p ∷ []) no_position k (omega arith)

  more_last : get_or more n no_position ≡ p
  more_last = get_or_at ps p [] no_position n size

  more_size : length more ≡ n + 1
  more_size = length-append ps (p ∷ []) ∙ ap (λ (k : ℕ). k + 1) size

  -- A column with one entry more.
  column_more : (f : Position → ℕ) (g : ℕ → ℕ) (base : ℕ) (t : List ℕ) (k : ℕ) → g (get_or t (base + n) 0) ≡ f p
      → ((j : ℕ) → j < n → g (get_or t (base + j) 0) ≡ f (get_or ps j no_position)) → k < length more → g (get_or t (base + k) 0) ≡ f (get_or more k no_position)
  column_more f g base t k here below h =
      ⊎_elim
      (λ l. below k l ∙ ap f (sym (more_below k l)))
      (λ l. let e : k ≡ n = omega (arith, more_size) in rw e (here ∙ ap f (sym more_last)))
      (lt-or-le k n)

  same_edges : (b j : ℕ) → (ltb j n && edge (get_or ps j no_position).low (get_or ps j no_position).high b)
      ≡ (ltb j n && edge (get_or more j no_position).low (get_or more j no_position).high b)
  same_edges b j =
      ⊎_elim
      (λ l. rw (more_below j l))
      (λ l. rw (le-ltb j n l))
      (lt-or-le j n)

-- A position that joins is held beside the others.
pub holds_more : (ps : List Position) (low high rule : ℕ) (last : Bool) (follow n one : ℕ) (t t' : List ℕ) → rule < 256 → length ps ≡ n → n < 64
    → one ≡ 2 ^ n → Joined t low high rule follow n one t' → Holding ps t → Holding (ps ++ (position low high rule last follow ∷ [])) t'
holds_more ps low high rule last follow n one t t' byte size few o g h = record {
  edges = λ b j l.
      ap (λ (x : ℕ). bit x j) (g.entries b l)
      ∙ rw (o, bit-xor, bit_one_if, h.edges b j l, size, more_size ps p n size, same_edges ps p n size b j)
      (ap (λ (x : Bool). xor (ltb j n && edge_of b j) (x && eqb n j)) (sym (last_edge b)) ∙ class_more (edge_of b) n j);
  follow_sets = λ k l. column_more ps p n size (λ q. q.follow) (λ x. x) 256 t' k g.follow_set
      (λ j m. g.others (256 + j) (omega arith) (λ q. omega arith) (λ q. omega arith) ∙ h.follow_sets j (omega arith)) l;
  rules = λ k l. column_more ps p n size (λ q. q.rule) (λ x. x % 256) 320 t' k
      (ap (λ (x : ℕ). x % 256) g.rule_word ∙ omega arith)
      (λ j m. ap (λ (x : ℕ). x % 256) (g.others (320 + j) (omega arith) (λ q. omega arith) (λ q. omega arith)) ∙ h.rules j (omega arith)) l;
}
  where
    p : Position
    p = position low high rule last follow

    edge_of : ℕ → ℕ → Bool
    edge_of b j = edge (get_or (ps ++ (p ∷ [])) j no_position).low (get_or (ps ++ (p ∷ [])) j no_position).high b

    last_edge : (b : ℕ) → edge_of b n ≡ edge low high b
    last_edge b = ap (λ (q : Position). edge q.low q.high b) (more_last ps p n size)

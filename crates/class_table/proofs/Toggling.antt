-- Classes toggle their positions: a set in one entry, one class in the tables, and one position that joins those that the tables hold. The
-- sweep, and what a byte's set means, are not spoken of here.
use mathlib.Core.Path.{◌≡◌, refl, sym, ◌∙◌}
use mathlib.Core.Bool.{Bool, true, false, xor, cond}
use mathlib.Core.List.{List}
use Prim.Native.Nat.{ℕ, suc, ◌+◌, ◌≤◌, ◌<◌}
use native.Mathlib.Omega.{arith}
use native.Mathlib.Numerals.{add-one}
use lib.Bits.{bit_xor, xor_zero_r}
use lib.Dec.{eqb}
use lib.ListN.{length, get_or, set, length-set}
use lib.Seq.{get_or-set_same, get_or-set_other}
use borrow.Author.Tests.{ne_eqb, eqb-true, eqb-false}
use Rattle.basics.specs.Bits.{bit}
use Rattle.basics.proofs.laws.BitLaws.{bit-xor, bit_ext_all}
use Rattle.class_table.specs.Filling.{edge}
use Rattle.class_table.specs.Holding.{Toggled, Joined}
use Rattle.class_table.proofs.laws.JoiningLaws.{false-xor, xor-false}

-- A set toggled in one entry.
abbrev pub toggle : List ℕ → ℕ → ℕ → List ℕ
toggle t i s = set t i (bit_xor (get_or t i 0) s)

toggle-at : (t : List ℕ) (i s b : ℕ) → i < length t → get_or (toggle t i s) b 0 ≡ bit_xor (get_or t b 0) (cond (eqb i b) s 0)
toggle-at t i s b h = go (eqb i b) refl
  where
    go : (x : Bool) → eqb i b ≡ x → get_or (toggle t i s) b 0 ≡ bit_xor (get_or t b 0) (cond x s 0)
    go true e = rw (← eqb-true i b e) (get_or-set_same t i (bit_xor (get_or t i 0) s) 0 h)
    go false e =
        get_or-set_other t i b (bit_xor (get_or t i 0) s) 0 (λ q. eqb-false i b e (sym q)) ∙ sym (xor_zero_r (get_or t b 0))

-- What is toggled twice stays.
flag_twice : (p q : Bool) → xor (xor p q) q ≡ p
unfolding xor
flag_twice true true = refl
flag_twice true false = refl
flag_twice false true = refl
flag_twice false false = refl

xor_twice : (x s : ℕ) → bit_xor (bit_xor x s) s ≡ x
xor_twice x s = bit_ext_all (bit_xor (bit_xor x s) s) x (λ i. simp bit-xor (flag_twice (bit x i) (bit s i)))

both_toggled : (p q : Bool) (x s : ℕ) → bit_xor (bit_xor x (cond p s 0)) (cond q s 0) ≡ bit_xor x (cond (xor p q) s 0)
unfolding xor
both_toggled true true x s = xor_twice x s ∙ sym (xor_zero_r x)
both_toggled true false x s = xor_zero_r (bit_xor x s)
both_toggled false q x s = rw (xor_zero_r x, false-xor q)

-- One class, whose high byte is not the last one, or is.
module _ (t : List ℕ) (low high s : ℕ) (size : length t ≡ 448) (small : low < 256) where
  pub class_toggled : high + 1 < 256 → Toggled t s low high (toggle (toggle t low s) (high + 1) s)
  unfolding edge
  class_toggled h = record {
    size = simp length-set size;
    entries = λ b l.
        toggle-at (toggle t low s) (high + 1) s b (simp length-set (omega arith))
        ∙ rw (toggle-at t low s b (omega arith), add-one high) (both_toggled (eqb low b) (eqb (suc high) b) (get_or t b 0) s);
    others = λ k l.
        get_or-set_other (toggle t low s) (high + 1) k (bit_xor (get_or (toggle t low s) (high + 1) 0) s) 0 (λ e. omega arith)
        ∙ get_or-set_other t low k (bit_xor (get_or t low 0) s) 0 (λ e. omega arith);
  }

  pub class_toggled_low : 256 ≤ high + 1 → Toggled t s low high (toggle t low s)
  unfolding edge
  class_toggled_low h = record {
    size = simp length-set size;
    entries = λ b l. toggle-at t low s b (omega arith) ∙ rw (ne_eqb (suc high) b (λ e. omega arith), xor-false);
    others = λ k l. get_or-set_other t low k (bit_xor (get_or t low 0) s) 0 (λ e. omega arith);
  }

-- A class toggled, and then the follow set and the rule of its position stored.
pub joined : (low high rule follow n one : ℕ) (t t' : List ℕ) → n < 64 → Toggled t one low high t'
    → Joined t low high rule follow n one (set (set t' (256 + n) follow) (320 + n) rule)
joined low high rule follow n one t t' few g = record {
  size = simp length-set g.size;
  entries = λ b l. past b (λ q. omega arith) (λ q. omega arith) ∙ g.entries b l;
  follow_set = get_or-set_other (set t' (256 + n) follow) (320 + n) (256 + n) rule 0 (λ q. omega arith)
      ∙ get_or-set_same t' (256 + n) follow 0 (omega (arith, g.size));
  rule_word = get_or-set_same (set t' (256 + n) follow) (320 + n) rule 0 (simp length-set (omega (arith, g.size)));
  others = λ k l p q. past k q p ∙ g.others k l;
}
  where
    past : (k : ℕ) → (k ≡ 320 + n → ⊥) → (k ≡ 256 + n → ⊥) → get_or (set (set t' (256 + n) follow) (320 + n) rule) k 0 ≡ get_or t' k 0
    past k q p = get_or-set_other (set t' (256 + n) follow) (320 + n) k rule 0 q ∙ get_or-set_other t' (256 + n) k follow 0 p

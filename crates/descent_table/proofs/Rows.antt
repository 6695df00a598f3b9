-- The table as the code fills it, a node's five entries at a time: they stand where they were stored, and those of other nodes stay.
use mathlib.Core.Path.{◌≡◌, sym, subst, ◌∙◌}
use mathlib.Core.Bool.{cond}
use mathlib.Core.List.{List}
use mathlib.Core.Logic.{⊎_elim}
use Prim.Native.Nat.{ℕ, ◌+◌, ◌≤◌, ◌<◌}
use native.Mathlib.Omega.{arith}
use lib.ListN.{get_or, length, set, replicate, length-set, length-replicate}
use lib.Seq.{get_or-set_same, get_or-set_other}
use Rattle.basics.specs.Bits.{bit}
use Rattle.basics.proofs.laws.Order.{lt-or-le}
use Rattle.sheet.specs.Expression.{Expression}
use Rattle.columns.specs.declared.NodeLinks.{NodeLinks}
use Rattle.columns.specs.declared.TypeColumns.{TypeColumns}
use Rattle.descent_table.specs.TableOf.{TableOf, tag_at, link_at, up_at, null_at, first_at}
use Rattle.descent_table.specs.HoldsTyped.{HoldsTyped}
use Rattle.descent_table.specs.Filling.{UpColumn, with_row, RowOf}
use Rattle.descent_table.proofs.laws.TableLaws.{counted, table_of}

module _ (table : List ℕ) (n tag link up null first : ℕ) (l : n < 64) where
  abbrev by_tag : List ℕ
  by_tag = set table n tag

  abbrev by_link : List ℕ
  by_link = set by_tag (64 + n) link

  abbrev by_up : List ℕ
  by_up = set by_link (128 + n) up

  abbrev by_null : List ℕ
  by_null = set by_up (192 + n) null

  abbrev all_by : List ℕ
  all_by = with_row table n tag link up null first

  row_long : length all_by ≡ length table
  unfolding with_row
  row_long = length-set by_null (256 + n) first ∙ length-set by_up (192 + n) null ∙ length-set by_link (128 + n) up
      ∙ length-set by_tag (64 + n) link ∙ length-set table n tag

  -- An entry of no column of node n.
  other_kept : (k : ℕ) → (k ≡ n → ⊥) → (k ≡ 64 + n → ⊥) → (k ≡ 128 + n → ⊥) → (k ≡ 192 + n → ⊥) → (k ≡ 256 + n → ⊥)
      → get_or all_by k 0 ≡ get_or table k 0
  unfolding with_row
  other_kept k a b c d e = get_or-set_other by_null (256 + n) k first 0 e ∙ get_or-set_other by_up (192 + n) k null 0 d
      ∙ get_or-set_other by_link (128 + n) k up 0 c ∙ get_or-set_other by_tag (64 + n) k link 0 b ∙ get_or-set_other table n k tag 0 a

  module _ (long : length table ≡ 320) where
    tag_stored : tag_at all_by n ≡ tag
    unfolding with_row
    tag_stored = get_or-set_other by_null (256 + n) n first 0 (λ i. omega arith) ∙ get_or-set_other by_up (192 + n) n null 0 (λ i. omega arith)
        ∙ get_or-set_other by_link (128 + n) n up 0 (λ i. omega arith) ∙ get_or-set_other by_tag (64 + n) n link 0 (λ i. omega arith)
        ∙ get_or-set_same table n tag 0 (omega arith)

    link_stored : link_at all_by n ≡ link
    unfolding with_row
    link_stored = get_or-set_other by_null (256 + n) (64 + n) first 0 (λ i. omega arith)
        ∙ get_or-set_other by_up (192 + n) (64 + n) null 0 (λ i. omega arith) ∙ get_or-set_other by_link (128 + n) (64 + n) up 0 (λ i. omega arith)
        ∙ get_or-set_same by_tag (64 + n) link 0 (simp length-set (omega arith))

    up_stored : up_at all_by n ≡ up
    unfolding with_row
    up_stored = get_or-set_other by_null (256 + n) (128 + n) first 0 (λ i. omega arith)
        ∙ get_or-set_other by_up (192 + n) (128 + n) null 0 (λ i. omega arith) ∙ get_or-set_same by_link (128 + n) up 0 (simp length-set (omega arith))

    null_stored : null_at all_by n ≡ null
    unfolding with_row
    null_stored = get_or-set_other by_null (256 + n) (192 + n) first 0 (λ i. omega arith)
        ∙ get_or-set_same by_up (192 + n) null 0 (simp length-set (omega arith))

    first_stored : first_at all_by n ≡ first
    unfolding with_row
    first_stored = get_or-set_same by_null (256 + n) first 0 (simp length-set (omega arith))

-- The first so many nodes have their entries.
pub record Filled (links : NodeLinks) (types : TypeColumns) (up : List ℕ) (count : ℕ) (table : List ℕ) : Type 0 where
  pub at_most : count ≤ links.count
  pub long : length table ≡ 320
  pub rows : (k : ℕ) → k < count → RowOf links types up table k

module _ (links : NodeLinks) (types : TypeColumns) (up : List ℕ) where
  pub filled_first : Filled links types up 0 (replicate 320 0)
  filled_first = record {
    at_most = omega arith;
    long = length-replicate {A = ℕ} 320 0;
    rows = λ k l. absurd (omega arith);
  }

  module _ (n : ℕ) (table : List ℕ) (s : Filled links types up n table) where
    pub filled_next : (few : links.count ≤ 64) → n < links.count → (null : ℕ) → null ≡ cond (bit types.null n) 1 0
        → (next : List ℕ)
        → next ≡ with_row table n (get_or links.tag n 0) (get_or links.link n 0) (get_or up n 0) null (get_or types.first n 0)
        → Filled links types up (n + 1) next
    filled_next few l null null_is next f = subst (Filled links types up (n + 1)) (sym f) (record {
      at_most = omega arith;
      long = row_long table n tag link above null first below ∙ s.long;
      rows = λ k i. ⊎_elim (λ j. kept k j (s.rows k j)) (λ j. subst (RowOf links types up filled) (omega arith) here) (lt-or-le k n);
    })
      where
        tag : ℕ
        tag = get_or links.tag n 0

        link : ℕ
        link = get_or links.link n 0

        above : ℕ
        above = get_or up n 0

        first : ℕ
        first = get_or types.first n 0

        below : n < 64
        below = omega arith

        filled : List ℕ
        filled = with_row table n tag link above null first

        here : RowOf links types up filled n
        here = record {
          tag = tag_stored table n tag link above null first below s.long;
          link = link_stored table n tag link above null first below s.long;
          above = up_stored table n tag link above null first below s.long;
          null = null_stored table n tag link above null first below s.long ∙ null_is;
          first = first_stored table n tag link above null first below s.long;
        }

        same : (k : ℕ) → (k ≡ n → ⊥) → (k ≡ 64 + n → ⊥) → (k ≡ 128 + n → ⊥) → (k ≡ 192 + n → ⊥) → (k ≡ 256 + n → ⊥)
            → get_or filled k 0 ≡ get_or table k 0
        same = other_kept table n tag link above null first below

        kept : (k : ℕ) → k < n → RowOf links types up table k → RowOf links types up filled k
        kept k j r = record {
          tag = same k (λ i. omega arith) (λ i. omega arith) (λ i. omega arith) (λ i. omega arith) (λ i. omega arith) ∙ r.tag;
          link = same (64 + k) (λ i. omega arith) (λ i. omega arith) (λ i. omega arith) (λ i. omega arith) (λ i. omega arith) ∙ r.link;
          above = same (128 + k) (λ i. omega arith) (λ i. omega arith) (λ i. omega arith) (λ i. omega arith) (λ i. omega arith) ∙ r.above;
          null = same (192 + k) (λ i. omega arith) (λ i. omega arith) (λ i. omega arith) (λ i. omega arith) (λ i. omega arith) ∙ r.null;
          first = same (256 + k) (λ i. omega arith) (λ i. omega arith) (λ i. omega arith) (λ i. omega arith) (λ i. omega arith) ∙ r.first;
        }

    pub all_filled : links.count ≤ n → (e : Expression) → HoldsTyped links types e → UpColumn e up → TableOf e table
    all_filled l e h ups = table_of links types e h up table ups (λ k i. s.rows k (omega (arith, counted links types e h)))

-- The nodes of a tail and of a row that join those met, and their numbers among all nodes reached.
-- What one node changes is in specs/laws/JoinLaws.antt.
use mathlib.Core.Path.{◌≡◌, refl, sym, ap, subst, ◌∙◌}
use mathlib.Core.Bool.{Bool, cond}
use mathlib.Core.List.{List, [], ◌∷◌, ◌++◌, append_assoc, Memᴰ}
use mathlib.Core.Option.{Option, none, some}
use Prim.Native.Nat.{ℕ, zero, suc, ◌+◌, ◌<◌}
use native.Mathlib.Decide.{ℕ_discrete}
use native.Mathlib.Omega.{arith}
use native.Mathlib.Numerals.{add-one}
use lib.ListN.{get_or, length, take, drop, length-append, take-append-drop}
use lib.Seq.{get_or-take, take-suc, length-take-le}
use Rattle.std.specs.Prelude.{Some, None}
use Rattle.basics.specs.Lists.{All}
use Rattle.basics.proofs.laws.Truth.{holds_true}
use Rattle.production_finder.specs.Columns.{tail_held}
use Rattle.production_finder.specs.declared.Tail.{Tail}
use Rattle.basics.proofs.laws.Members.{all-at, member_at}
use Rattle.basics.specs.Meeting.{is_met, meet, meet_all, number_of}
use Rattle.basics.specs.laws.MeetingLaws.{Met}
use Rattle.basics.proofs.laws.MeetingLaws.{first_met, meet_all_order, meet_all_has, number_left}
use Rattle.basics.proofs.laws.Reaching.{meet_all-append}
use Rattle.node_numbering.specs.laws.Below.{concat_below}
use Rattle.node_numbering.specs.Grammar.{Numbers, members_of, numbering_after}
use Rattle.node_numbering.specs.Leads.{Leads}
use Rattle.node_numbering.proofs.laws.JoinLaws.{node_met}
use Rattle.node_numbering.specs.laws.RuleTails.{rule_part}
use Rattle.node_numbering.specs.declared.Numbering.{Numbering}

-- ---- those that lead on

module _ (met a b all : List ℕ) (l : Leads met (a ++ b) all) where
  pub leads_front : Leads met a all
  leads_front = record {
    rest = first_met (meet_all met a) b ++ l.rest;
    continues = l.continues
        ∙ ap (λ (k : List ℕ). k ++ l.rest) (meet_all-append met a b ∙ meet_all_order (meet_all met a) b)
        ∙ append_assoc (meet_all met a) (first_met (meet_all met a) b) l.rest;
    few = l.few;
  }

  pub leads_back : Leads (meet_all met a) b all
  leads_back = record {
    rest = l.rest;
    continues = l.continues ∙ ap (λ (k : List ℕ). k ++ l.rest) (meet_all-append met a b);
    few = l.few;
  }

-- The number of a node that has been met.
number_there : (c : Numbering) (met rest all : List ℕ) → Numbers c met → all ≡ met ++ rest → (n : ℕ) → n < 64 → Met n met
    → get_or c.number n 0 ≡ number_of all n
number_there c met rest all h e n small m =
    h.numbers n small ∙ ap (λ (b : Bool). cond b (number_of met n) 64) (holds_true (is_met n met) m)
    ∙ sym (ap (λ (l : List ℕ). number_of l n) e ∙ number_left n met rest m)

-- ---- the members of a tail

meet_one : (met : List ℕ) (n : ℕ) → meet_all met (n ∷ []) ≡ meet met n
unfolding meet_all
meet_one met n = refl

meet-last : (met l : List ℕ) (i : ℕ) → i < length l → meet_all met (take (i + 1) l) ≡ meet (meet_all met (take i l)) (get_or l i 0)
meet-last met l i b =
    rw add-one (ap (meet_all met) (take-suc l i 0 b) ∙ meet_all-append met (take i l) (get_or l i 0 ∷ [])
    ∙ meet_one (meet_all met (take i l)) (get_or l i 0))

-- One member more joins, and has the number that it will have.
module _ (d e : Numbering) (tail : List ℕ) (i : ℕ) (l : i < length tail) (met all : List ℕ) (leads : Leads met tail all)
    (nodes : All (λ n. n < 64) tail) (so_far : Numbers d (meet_all met (take i tail))) (met_long : length d.met ≡ 64)
    (number_long : length d.number ≡ 64) (joins : e ≡ numbering_after d (get_or tail i 0)) where
  member_small : get_or tail i 0 < 64
  member_small = all-at (λ n. n < 64) tail nodes i 0 l

  member_leads : Leads met (take (i + 1) tail) all
  member_leads = leads_front met (take (i + 1) tail) (drop (i + 1) tail) all
      (subst (λ (k : List ℕ). Leads met k all) (sym (take-append-drop (i + 1) tail)) leads)

  pub member_met : Numbers e (meet_all met (take (i + 1) tail))
  member_met =
      let next = meet-last met tail i l in
      subst (Numbers e) (sym next) (subst (λ (n : Numbering). Numbers n (meet (meet_all met (take i tail)) (get_or tail i 0))) (sym joins)
      (node_met d (meet_all met (take i tail)) so_far (get_or tail i 0) member_small
      (omega (
        arith,
        ap length next,
        ap length member_leads.continues,
        length-append (meet_all met (take (i + 1) tail)) member_leads.rest,
        member_leads.few,
      ))
      met_long number_long))

  pub member_number : get_or e.number (get_or tail i 0) 0 ≡ number_of all (get_or tail i 0)
  member_number =
      let size : length (take (i + 1) tail) ≡ i + 1 = length-take-le (i + 1) tail (omega arith) in
      let there : Memᴰ (get_or tail i 0) (take (i + 1) tail) =
      subst (λ (n : ℕ). Memᴰ n (take (i + 1) tail)) (get_or-take (i + 1) tail i 0 (omega arith))
      (member_at (take (i + 1) tail) i 0 (omega arith)) in
      number_there e (meet_all met (take (i + 1) tail)) member_leads.rest all member_met member_leads.continues
      (get_or tail i 0) member_small (meet_all_has (get_or tail i 0) met (take (i + 1) tail) there)

pub nothing_met : (c : Numbering) (met : List ℕ) → Numbers c met → Numbers c (meet_all met [])
unfolding meet_all
nothing_met c met h = h

pub found_members : (t : Tail) → members_of (tail_held (Some t)) ≡ take t.count t.members
unfolding members_of
found_members t = refl

pub none-met : (met : List ℕ) → meet_all met (members_of (tail_held None)) ≡ met
unfolding meet_all members_of
none-met met = refl

-- ---- the members of a row

pub part-members : (r : ℕ) (o : Option (List ℕ)) → rule_part (λ p. p.tail) r o ≡ members_of o
unfolding rule_part members_of
part-members r none = refl
part-members r (some tail) = refl

module _ (met all : List ℕ) (f : ℕ → List ℕ) where
  below_leads : (n r : ℕ) → r < n → Leads met (concat_below f n) all → Leads met (concat_below f r ++ f r) all
  unfolding concat_below
  below_leads zero r h l = absurd (omega arith)
  below_leads (suc n) r h l = elim (ℕ_discrete r n) [
    | yes e ↦ subst (λ (k : ℕ). Leads met (concat_below f k ++ f k) all) (sym e) l
    | no e ↦ below_leads n r (omega arith) (leads_front met (concat_below f n) (f n) all l)
  ]

  pub rule_leads : (n r : ℕ) → r < n → Leads met (concat_below f n) all → Leads (meet_all met (concat_below f r)) (f r) all
  rule_leads n r h l = leads_back met (concat_below f r) (f r) all (below_leads n r h l)

  pub rule-joined : (r : ℕ) → meet_all met (concat_below f (r + 1)) ≡ meet_all (meet_all met (concat_below f r)) (f r)
  rule-joined r = rw add-one (unfold concat_below in meet_all-append met (concat_below f r) (f r))

  pub none-joined : meet_all met (concat_below f 0) ≡ met
  unfolding meet_all concat_below
  none-joined = refl

-- The walk for a token of FIRST finds exactly the production that the normal form's row has for it, in as many steps as there are nodes. Of
-- FIRST it needs that the heads of the rows that stay are in it, that the parts of an alternative are apart, and where a token of it leads.
use Rattle.std.specs.Prelude.{◌≡◌, Bool, eqb, length}
use Rattle.std.proofs.Math.Path.{refl, ap}
use Rattle.std.proofs.Common.{sym, ap₂, subst, ◌∙◌, true≢false, ⊎_elim, arith}
use Rattle.std.proofs.Math.Bool.{true, false, cond}
use mathlib.Core.List.{List, [], ◌∷◌, ◌++◌, append_assoc, append-nil}
use Rattle.std.proofs.Math.Option.{Option, none, some}
use Prim.Native.Nat.{ℕ, zero, suc, ◌+◌, ◌≤◌}
use Rattle.std.specs.Int.Bits.{bit_and}
use Rattle.std.proofs.Math.ListN.{get_or-eq_default}
use Rattle.basics.specs.Bits.{bit, ◌∈◌}
use Rattle.basics.proofs.laws.BitLaws.{∈_disjoint}
use Rattle.basics.specs.Lists.{or_else}
use Rattle.sheet.specs.Expression.{Expression, size}
use Rattle.sheet.specs.Limits.{most_expression_nodes}
use Rattle.types.specs.Types.{LanguageType, ◌⊢◌∶◌, type_epsilon, type_bottom, type_token, type_variable, type_sequence, type_alternative, type_fixed_point, type_repetition}
use Rattle.types.specs.TypeNames.{Context}
use Rattle.types.specs.Nodes.{Node, bottom_node, alternative_node, nodes, node_at}
use Rattle.types.specs.LeastTypes.{type_of, least_types}
use Rattle.types.specs.Solutions.{next_types}
use Rattle.types.proofs.laws.QuestionLaws.{passes_apart}
use Rattle.types.proofs.laws.Typing.{least_passes}
use Rattle.normal_form.specs.Productions.{Production, Row, no_productions, ended_by, row_of, node_row, most_tail, production_of}
use Rattle.normal_form.proofs.laws.ProductionLaws.{Found, production_found, production-append, ended, production-ended}
use Rattle.normal_form.specs.Derives.{derives}
use Rattle.normal_form.specs.RowNames.{derives_at}
use Rattle.normal_form.specs.NormalForm.{normal_form}
use Rattle.normal_form.proofs.laws.KeptRows.{staying_row, normal_form_solves}
use Rattle.normal_form.proofs.laws.RowTypes.{rows_within}
use Rattle.normal_form.proofs.laws.ExactRows.{Leads, first_leads}
use Rattle.normal_form.proofs.laws.Places.{nodes-count, Placed, nodes_placed, everywhere_all, none_usable}
use Rattle.normal_form.proofs.laws.Descent.{head_weight, weight-size, weight-parts, VariablesKeep, keep_in_body, bounded}
use Rattle.normal_form.proofs.laws.Unfolding.{sequence_row, ◌of◌}
use Rattle.normal_form.proofs.laws.Tails.{sequence_count_bound, tails_at_most}
use Rattle.normal_form.specs.ProductionWalk.{walk_step, walk, with_head, walk_of}

-- What was remembered before comes after a production's tail.
abbrev ending : Option Production → List ℕ → Option (List ℕ)
ending none rights = none
ending (some q) rights = some (q.tail ++ rights)

ending-ended : (r : ℕ) (o : Option Production) (rights : List ℕ) → ending o (r ∷ rights) ≡ ending (ended r o) rights
unfolding ended_by
ending-ended r none rights = refl
ending-ended r (some q) rights = ap some (sym (append_assoc q.tail (r ∷ []) rights))

-- Over the nodes of a whole expression, whose rows solve the equations of the rows that stay, with sets that hold the heads of the rows
-- are disjoint for the parts of an alternative, and lead a token that they hold to the parts that have it.
module _ (table : ℕ → Node) (first : ℕ → ℕ) (flags : List Bool) (t : ℕ) (rs : List Row)
    (solves : (n : ℕ) → row_of rs n ≡ staying_row flags rs (table n))
    (heads : (n : ℕ) (q : Production) → q of row_of rs n → q.head ∈ first n)
    (apart : (n l r : ℕ) → table n ≡ alternative_node l r → bit_and (first l) (first r) ≡ 0)
    (leads : (n : ℕ) → t ∈ first n → Leads first flags t (table n)) where
  abbrev walks : ℕ → ℕ → List ℕ → Option (List ℕ)
  walks = walk table first t

  abbrev step : (ℕ → List ℕ → Option (List ℕ)) → Node → List ℕ → Option (List ℕ)
  step = walk_step table first t

  abbrev answer : Row → List ℕ → Option (List ℕ)
  answer P rights = ending (production_of t P.productions) rights

  -- With m steps or more, the walk from n answers by the row of n, if t begins words of n.
  abbrev WalksIn : ℕ → ℕ → Type 0
  WalksIn m n = (k : ℕ) → m ≤ k → (rights : List ℕ) → t ∈ first n → walks k n rights ≡ answer (row_of rs n) rights

  walks_later : (m M n : ℕ) → m ≤ M → WalksIn m n → WalksIn M n
  walks_later m M n h f k l rights = f k (omega arith) rights

  by_step : {x : Node} (p k : ℕ) → table p ≡ x → 1 ≤ k → (rights : List ℕ) → t ∈ first p
      → ((i : ℕ) → k ≡ suc i → Leads first flags t x → step (walks i) x rights ≡ answer (staying_row flags rs x) rights)
      → walks k p rights ≡ answer (row_of rs p) rights
  unfolding walk
  by_step p zero e h rights b f = absurd (omega arith)
  by_step p (suc i) e h rights b f =
      ap (λ x. step (walks i) x rights) e ∙ (f i refl (subst (Leads first flags t) e (leads p b))
      ∙ ap (λ P. answer P rights) (sym (solves p ∙ ap (staying_row flags rs) e)))

  found_first : (n : ℕ) (q : Production) → Found t (row_of rs n).productions (some q) → t ∈ first n
  found_first n q f = subst (λ (c : ℕ). c ∈ first n) f.1 (heads n q f.0)

  -- A left part that can begin with t leaves the right part none; one that cannot has none.
  choose : (p l r : ℕ) → table p ≡ alternative_node l r → (rights : List ℕ) (go_on : ℕ → List ℕ → Option (List ℕ))
      → (t ∈ first l → go_on l rights ≡ answer (row_of rs l) rights) → (t ∈ first r → go_on r rights ≡ answer (row_of rs r) rights)
      → Leads first flags t (alternative_node l r)
      → step go_on (alternative_node l r) rights ≡ answer (node_row rs (alternative_node l r)) rights
  unfolding walk_step node_row
  choose p l r x rights go_on u v b =
      go (bit (first l) t) refl (production_of t (row_of rs l).productions) refl (production_found t (row_of rs l).productions)
      (production_of t (row_of rs r).productions) refl (production_found t (row_of rs r).productions)
      ∙ ap (λ o. ending o rights) (sym (production-append t (row_of rs l).productions (row_of rs r).productions))
    where
      go : (b : Bool) → bit (first l) t ≡ b → (o : Option Production) → production_of t (row_of rs l).productions ≡ o
          → Found t (row_of rs l).productions o → (o' : Option Production) → production_of t (row_of rs r).productions ≡ o'
          → Found t (row_of rs r).productions o'
          → cond b (go_on l rights) (go_on r rights)
          ≡ ending (or_else (production_of t (row_of rs l).productions) (production_of t (row_of rs r).productions)) rights
      go true e (some q) i f o' i' f' = rw i (u e ∙ ap (λ y. ending y rights) i)
      go true e none i f none i' f' = rw (i, i') (u e ∙ ap (λ y. ending y rights) i)
      go true e none i f (some q) i' f' = absurd (∈_disjoint (first l) (first r) t (apart p l r x) e (found_first r q f'))
      go false e none i f o' i' f' = rw i (v (⊎_elim (λ y. absurd (true≢false (sym y ∙ e))) (λ y. y) b))
      go false e (some q) i f o' i' f' = absurd (true≢false (sym (found_first l q f) ∙ e))

  -- A sequence remembers its right node, which derives.
  follow : (l r : ℕ) (rights : List ℕ) (go_on : ℕ → List ℕ → Option (List ℕ))
      → go_on l (r ∷ rights) ≡ answer (row_of rs l) (r ∷ rights) → (b : Bool) → b ≡ true
      → go_on l (r ∷ rights) ≡ answer (cond b (sequence_row r (row_of rs l)) no_productions) rights
  follow l r rights go_on u true z = u ∙ (ending-ended r (production_of t (row_of rs l).productions) rights
      ∙ ap (λ o. ending o rights) (sym (production-ended t r (row_of rs l).productions)))
  follow l r rights go_on u false z = absurd (true≢false (sym z))

  own_walk : {Γ : Context} {g : Expression} {a : LanguageType} → Γ ⊢ g ∶ a → (p : ℕ) (fs : List ℕ) → Placed table g p fs → (m : ℕ)
      → VariablesKeep WalksIn Γ fs m → WalksIn (m + head_weight 1 g) p
  unfolding walk_step node_row production_of
  own_walk type_epsilon p fs h m v k l rights b = by_step p k h (omega arith) rights b (λ i e x. refl)
  own_walk type_bottom p fs h m v k l rights b = by_step p k h (omega arith) rights b (λ i e x. refl)
  own_walk (type_token c) p fs h m v k l rights b = by_step p k h (omega arith) rights b (λ i e x. go (eqb c t))
    where
      go : (b : Bool) → cond b (some rights) none
          ≡ ending (elim b [ true ↦ some (record { head = c; tail = [] }) | false ↦ none ]) rights
      go true = refl
      go false = refl
  own_walk (type_variable {n = n} {a = a} u) p fs h m v k l rights b = by_step p k h.1 (omega arith) rights b
      (λ i e x. v n a u i (omega arith) rights x)
  own_walk (type_sequence {g = g} d e q) p fs h m v k l rights b = by_step p k h.0 (omega arith) rights b
      (λ i z x. let r = suc p + size g in
      follow (suc p) r rights (walks i) (own_walk d (suc p) fs h.1 m v i (omega arith) (r ∷ rights) x.0) (derives_at flags r) x.1)
  own_walk (type_alternative {g = g} d e q) p fs h m v k l rights b = by_step p k h.0 (omega arith) rights b
      (λ i z x. choose p (suc p) (suc p + size g) h.0 rights (walks i)
      (λ c. own_walk d (suc p) fs h.1 m v i (omega arith) rights c)
      (λ c. own_walk e (suc p + size g) fs h.2 m v i (omega arith) rights c) x)
  own_walk (type_fixed_point {Γ = Γ} {a = a} d) p fs h m v k l rights b = by_step p k h.0 (omega arith) rights b
      (λ i z x. own_walk d (suc p) (p ∷ fs) h.1 m (keep_in_body WalksIn Γ fs m p a v) i (omega arith) rights x)
  own_walk (type_repetition d q e) p fs h m v k l rights b = by_step p k h.0 (omega arith) rights b
      (λ i z x. follow (suc p) p rights (walks i) (own_walk d (suc p) fs h.1 m v i (omega arith) (p ∷ rights) x.0) (derives_at flags p)
      x.1)

-- A production found for t, as the walk's result: its tail, with nothing remembered before it.
ending-none : (t : ℕ) (l : List Production) (o : Option Production) → Found t l o → with_head t (ending o []) ≡ o
ending-none t l none f = refl
ending-none t l (some q) f = ap some (ap₂ (λ h b. record { head = h; tail = b }) (sym f.1) (append-nil q.tail))

-- With as many steps as there are nodes, the walk finds the normal form's production for a token of FIRST.
module _ {e : Expression} {a : LanguageType} (d : [] ⊢ e ∶ a) (s : least_types e ≡ next_types (nodes e) (least_types e)) where
  firsts : ℕ → ℕ
  firsts i = (type_of (least_types e) i).first

  heads_first : (n : ℕ) (q : Production) → q of row_of (normal_form e) n → q.head ∈ firsts n
  unfolding firsts
  heads_first n = (rows_within d (least_types e) s (passes_apart (nodes e) (least_types e) (least_passes e d)) n).heads_within

  parts_apart : (n l r : ℕ) → node_at (nodes e) n ≡ alternative_node l r → bit_and (firsts l) (firsts r) ≡ 0
  unfolding firsts
  parts_apart n l r h = (passes_apart (nodes e) (least_types e) (least_passes e d) n l r h).disjoint

  leads_from : (t n : ℕ) → t ∈ firsts n → Leads firsts (derives e) t (node_at (nodes e) n)
  unfolding firsts
  leads_from t n = first_leads d s t n

  module _ (t : ℕ) where
    abbrev InSteps : ℕ → ℕ → Type 0
    InSteps = WalksIn (node_at (nodes e)) firsts (derives e) t (normal_form e) (normal_form_solves d) heads_first parts_apart (leads_from t)

    past : (i : ℕ) → size e ≤ i → InSteps (size e) i
    past i l j z = own_walk (node_at (nodes e)) firsts (derives e) t (normal_form e) (normal_form_solves d) heads_first parts_apart (leads_from t)
        {Γ = []} type_bottom i [] (get_or-eq_default (nodes e) bottom_node {n = i} (rw (nodes-count e) l)) 0 (λ x b u. none_usable u) j
        (let y = sequence_count_bound e in omega arith)

    all_walk : (i : ℕ) → InSteps (size e) i
    all_walk = everywhere_all (InSteps (size e)) e
        (bounded (node_at (nodes e)) 1 InSteps
        (walks_later (node_at (nodes e)) firsts (derives e) t (normal_form e) (normal_form_solves d) heads_first parts_apart (leads_from t))
        (λ Γ g b. own_walk (node_at (nodes e)) firsts (derives e) t (normal_form e) (normal_form_solves d) heads_first parts_apart (leads_from t)
        {Γ = Γ} {g = g} {a = b})
        d 0 [] (nodes_placed e) 0 0 (size e) (λ i b u. none_usable u) (λ i b u. none_usable u)
        (let w = weight-size e in omega arith) (let w = weight-size e in let x = weight-parts 1 e in omega arith))
        past

    pub walk_finds : (n k : ℕ) → size e ≤ k → t ∈ (type_of (least_types e) n).first
        → with_head t (walk_of e t k n []) ≡ production_of t (row_of (normal_form e) n).productions
    unfolding firsts
    walk_finds n k h b = ap (with_head t) (all_walk n k h [] b)
        ∙ ending-none t (row_of (normal_form e) n).productions (production_of t (row_of (normal_form e) n).productions)
        (production_found t (row_of (normal_form e) n).productions)

    -- A token outside FIRST has no production, so there is no need to walk.
    pub first_has_not : (n : ℕ) → bit (type_of (least_types e) n).first t ≡ false
        → production_of t (row_of (normal_form e) n).productions ≡ none
    unfolding firsts
    first_has_not n h =
        go (production_of t (row_of (normal_form e) n).productions) (production_found t (row_of (normal_form e) n).productions)
      where
        go : (o : Option Production) → Found t (row_of (normal_form e) n).productions o → o ≡ none
        go none f = refl
        go (some q) f = absurd (true≢false (sym (subst (λ (c : ℕ). c ∈ firsts n) f.1 (heads_first n q f.0)) ∙ h))

    -- A tail that the walk finds is no longer than any tail.
    pub walk_short : size e ≤ most_expression_nodes → (n k : ℕ) → size e ≤ k → t ∈ (type_of (least_types e) n).first
        → (tail : List ℕ) → walk_of e t k n [] ≡ some tail → length tail ≤ most_tail
    walk_short small n k h b tail w =
        let f : Found t (row_of (normal_form e) n).productions (some (record { head = t; tail = tail })) =
        subst (Found t (row_of (normal_form e) n).productions) (sym (walk_finds n k h b) ∙ ap (with_head t) w)
        (production_found t (row_of (normal_form e) n).productions) in
        tails_at_most d small n (record { head = t; tail = tail }) f.0

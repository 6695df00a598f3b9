-- Reading a text match by match: how far it has come, what one match more makes of that, and where it ends.
use mathlib.Core.Path.{◌≡◌, refl, sym, ap, ap₂, ◌∙◌, subst}
use mathlib.Core.List.{List, [], ◌∷◌, ◌++◌, append-nil, append_assoc, map}
use Prim.Native.Nat.{ℕ, zero, suc, ◌+◌, ◌-◌, ◌≤◌, ◌<◌}
use native.Mathlib.Omega.{arith}
use lib.ListN.{length, drop, take, get_or, length-drop}
use lib.Seq.{get_or-take}
use borrow.Author.Tests.{lt-ltb, le-ltb}
use Rattle.basics.specs.Lists.{written_over}
use Rattle.basics.proofs.laws.Buffers.{rest_from}
use Rattle.sheet.specs.Sheet.{Rule}
use Rattle.lexer.specs.Positions.{Position, positions, first_positions}
use Rattle.std.specs.Prelude.{Option, Some, None}
use Rattle.lexer.specs.Match.{Match, no_match, matched}
use Rattle.lexer.specs.Walk.{longest_match}
use Rattle.lexer.proofs.laws.PositionBounds.{rules-below}
use Rattle.lexer.proofs.laws.LongestMatchLaws.{match_within, match_rule-below}
use Rattle.scanner.specs.Meaning.{match_of, Prepared}
use Rattle.scanner.specs.declared.Match as code
use Rattle.recogniser.specs.Listing.{Listed, listed, with_action, list_match, list_from, list_tokens}
use Rattle.token_lister.specs.Listing.{joined, Written, RulesReady}

-- ---- what is listed from a place on, by what matches there

abbrev match_at : List Rule → List ℕ → ℕ → Match
match_at rules text p = longest_match (positions rules) (first_positions rules) (drop p text)

from_end : (rules : List Rule) (text : List ℕ) (turns p : ℕ) → length text ≤ p → list_from rules text turns p ≡ listed [] [] p
unfolding list_from
from_end rules text zero p h = refl
from_end rules text (suc turns) p h = rw (le-ltb p (length text) h)

from_stop : (rules : List Rule) (text : List ℕ) (turns p : ℕ) → p < length text → match_at rules text p ≡ no_match
    → list_from rules text turns p ≡ listed [] [] p
unfolding list_from list_match
from_stop rules text zero p h e = refl
from_stop rules text (suc turns) p h e = rw (lt-ltb p (length text) h, e)

from_match : (rules : List Rule) (text : List ℕ) (turns p k n : ℕ) → p < length text → match_at rules text p ≡ matched k n
    → list_from rules text (suc turns) p ≡ with_action (get_or (map (λ r. r.action) rules) k 0) p (list_from rules text turns (p + n))
unfolding list_from list_match
from_match rules text turns p k n h e = rw (lt-ltb p (length text) h, e)

-- ---- joining

join_end : (l : Listed) (p : ℕ) → joined l (listed [] [] p) ≡ listed l.tokens l.starts p
unfolding joined
join_end l p = ap₂ (λ (a b : List ℕ). listed a b p) (append-nil l.tokens) (append-nil l.starts)

join_action : (l m : Listed) (action p q : ℕ)
    → joined (joined l (with_action action p (listed [] [] q))) m ≡ joined l (with_action action p m)
unfolding joined with_action
join_action l m zero p q =
    ap₂ (λ (a b : List ℕ). listed (a ++ m.tokens) (b ++ m.starts) m.place) (append-nil l.tokens) (append-nil l.starts)
join_action l m (suc t) p q =
    ap₂ (λ (a b : List ℕ). listed a b m.place) (append_assoc l.tokens (t ∷ []) m.tokens) (append_assoc l.starts (p ∷ []) m.starts)

-- ---- how far reading has come

pub record Reached (rules : List Rule) (text : List ℕ) (count place : ℕ) (list list' starts starts' : List ℕ) : Type 0 where
  pub so_far : Listed
  pub written : Written so_far count list list' starts starts'
  pub turns : ℕ
  pub enough : length text ≤ place + turns
  pub same : joined so_far (list_from rules text turns place) ≡ list_tokens rules text

-- All is listed.
abbrev pub Ends : List Rule → List ℕ → ℕ → ℕ → List ℕ → List ℕ → List ℕ → List ℕ → Type 0
Ends rules text count place list list' starts starts' =
    Written (list_tokens rules text) count list list' starts starts' × (place ≡ (list_tokens rules text).place)

module _ (rules : List Rule) (text list starts : List ℕ) where
  pub reached_start : Reached rules text 0 0 list list starts starts
  unfolding joined list_tokens written_over
  reached_start = record {
    so_far = listed [] [] 0;
    written = record { tokens_counted = refl; starts_counted = refl; tokens_written = refl; starts_written = refl };
    turns = length text;
    enough = omega arith;
    same = refl;
  }

module _ (rules : List Rule) (text : List ℕ) (count place : ℕ) (list list' starts starts' : List ℕ)
    (r : Reached rules text count place list list' starts starts') where
  ends : list_from rules text r.turns place ≡ listed [] [] place → Ends rules text count place list list' starts starts'
  ends e =
      let w = r.written in
      let l : listed r.so_far.tokens r.so_far.starts place ≡ list_tokens rules text =
      sym (join_end r.so_far place) ∙ ap (joined r.so_far) (sym e) ∙ r.same in (
        subst (λ (x : Listed). Written x count list list' starts starts') l (record {
          tokens_counted = w.tokens_counted;
          starts_counted = w.starts_counted;
          tokens_written = w.tokens_written;
          starts_written = w.starts_written;
        }),
        ap (λ (x : Listed). x.place) l,
      )

  pub reached_end : length text ≤ place → Ends rules text count place list list' starts starts'
  reached_end h = ends (from_end rules text r.turns place h)

  pub reached_stop : place < length text → match_at rules text place ≡ no_match → Ends rules text count place list list' starts starts'
  reached_stop h e = ends (from_stop rules text r.turns place h e)

  pub reached_next : (action k n count' : ℕ) (list'' starts'' : List ℕ) → place < length text → match_at rules text place ≡ matched k n
      → 0 < n → action ≡ get_or (map (λ r. r.action) rules) k 0
      → Written (joined r.so_far (with_action action place (listed [] [] place))) count' list list'' starts starts''
      → Reached rules text count' (place + n) list list'' starts starts''
  reached_next action k n count' list'' starts'' h e some a w = record {
    so_far = joined r.so_far (with_action action place (listed [] [] place));
    written = w;
    turns = r.turns - 1;
    enough = omega (arith, r.enough);
    same =
        join_action r.so_far rest action place place
        ∙ ap (λ (x : ℕ). joined r.so_far (with_action x place rest)) a
        ∙ ap (joined r.so_far) (sym (from_match rules text (r.turns - 1) place k n h e))
        ∙ ap (λ (m : ℕ). joined r.so_far (list_from rules text m place)) (omega (arith, r.enough))
        ∙ r.same;
  }
    where
      rest : Listed
      rest = list_from rules text (r.turns - 1) (place + n)

-- ---- what was found at a place

module _ (rules : List Rule) (action tables : List ℕ) (last first : ℕ) (ready : RulesReady rules action tables last first)
    (text : List ℕ) (p : ℕ) (f : Option code.Match)
    (e : match_of f ≡ longest_match (positions rules) first (take (length text - p) (drop p text))) where
  found_at : match_of f ≡ match_at rules text p
  found_at =
      e
      ∙ ap (longest_match (positions rules) first) (rest_from text p)
      ∙ ap (λ (s : ℕ). longest_match (positions rules) s (drop p text)) ready.first_held

  pub nothing_at : f ≡ None → match_at rules text p ≡ no_match
  unfolding match_of
  nothing_at h = sym found_at ∙ ap match_of h

  pub match_is : (k n : ℕ) → f ≡ Some (record { rule = k; length = n }) → match_at rules text p ≡ matched k n
  unfolding match_of
  match_is k n h = sym found_at ∙ ap match_of h

  -- It takes a byte or more of the text, and its rule is one of the rules.
  pub match_fits : (k n : ℕ) → f ≡ Some (record { rule = k; length = n }) → p ≤ length text → (0 < n) × (p + n ≤ length text) × (k < length rules)
  match_fits k n h l =
      let m = match_is k n h in
      let w = match_within (positions rules) (first_positions rules) (drop p text) k n m in (
        w.0,
        omega (arith, w.1, length-drop p text),
        match_rule-below (positions rules) (length rules) (rules-below rules) (first_positions rules) (drop p text) k n m,
      )

  pub action_is : (k n : ℕ) → f ≡ Some (record { rule = k; length = n }) → p ≤ length text → get_or action k 0 ≡ get_or (map (λ r. r.action) rules) k 0
  action_is k n h l =
      let below = (match_fits k n h l).2 in
      sym (get_or-take (length rules) action k 0 below) ∙ ap (λ (m : List ℕ). get_or m k 0) ready.actions_held

-- The same, for whatever rules the tables were made of; and there are few rules.
pub fits_here : (action tables text : List ℕ) (last first p : ℕ) (w : (rules : List Rule) × RulesReady rules action tables last first)
    (f : Option code.Match)
    → ((ps : List Position) → Prepared ps last tables → match_of f ≡ longest_match ps first (take (length text - p) (drop p text)))
    → (k n : ℕ) → f ≡ Some (record { rule = k; length = n }) → p ≤ length text → (0 < n) × (p + n ≤ length text) × (k < 32)
fits_here action tables text last first p w f e k n h l =
    let m = match_fits w.0 action tables last first w.1 text p f (e (positions w.0) w.1.prepared) k n h l in
    (m.0, m.1, omega (arith, m.2, w.1.few))

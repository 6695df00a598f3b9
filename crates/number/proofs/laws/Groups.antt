-- Lemmas behind `Laws`: what the groups at the front of some bytes are, what an accepted number says of them, and which bytes are groups of
-- a number, with how many there are. Nothing here is meant to be cited by other crates.
use Rattle.std.specs.Prelude.{ℕ, zero, suc, ◌+◌, ◌*◌, ◌^◌, ◌/◌, ◌%◌, ◌≤◌, ◌<◌, ◌≡◌, refl, List, [], ◌∷◌, ◌++◌, Bool, true, false, cond, ◌||◌, leb, ltb, eqb, length, get_or, take, None}
use Rattle.std.proofs.Common.{sym, ap, ap₂, subst, ◌∙◌, ⊎_elim, arith, shr_lt, lt-ltb, le-ltb, le-leb, eq-eqb, ltb-true, ltb-false, leb-true, eqb-true}
use Rattle.basics.proofs.laws.Order.{lt-or-le}
use Rattle.number.specs.declared.Number.{Number}
use Rattle.number.specs.Number.{InGroups, last_group, then_groups, Groups, last, more, count, value, highest}
use Rattle.number.specs.Number.{Front, cut, whole, followed, front, fewest, judged, number_from, encode_in, read}

-- ---- groups

pub count_positive : (gs : Groups) → 0 < count gs
unfolding count
count_positive (last g) = omega arith
count_positive (more g gs) = omega arith

pub highest-value : (gs : Groups) → highest gs ≤ value gs
unfolding highest value
highest-value (last g) = omega arith
highest-value (more g gs) = omega (arith, highest-value gs)

-- ---- what an accepted number says

pub refused_read : {A : Type 0} {v n : ℕ} {p : Bool} → None ≡ read v n p → A
refused_read {A} {v} {n} {p} e = let z : ◌≡◌ {A = ℕ} 0 1 = cc in absurd (omega arith)

-- Two numbers that are read are one number.
pub read_same : {v w n m : ℕ} {p q : Bool} → read v n p ≡ read w m q → (v ≡ w) × (n ≡ m) × (p ≡ q)
read_same {v} {w} {n} {m} {p} {q} e =
    let same : ◌≡◌ {A = Number} (record { value = v; used = n; fewest = p }) (record { value = w; used = m; fewest = q }) = cc in
    (ap (λ (r : Number). r.value) same, ap (λ (r : Number). r.used) same, ap (λ (r : Number). r.fewest) same)

-- The two tests, passed.
pub record JudgedRead (groups top n v w : ℕ) (p : Bool) : Type 0 where
  pub is_value : v ≡ n
  pub is_count : w ≡ groups
  pub is_fewest : p ≡ fewest groups top
  pub ten : groups ≤ 10
  pub below : n < 2 ^ 64

accepted_cases : (x y : Bool) (groups top n : ℕ) {v w : ℕ} {p : Bool} → leb groups 10 ≡ x → ltb n (2 ^ 64) ≡ y
    → cond x (cond y (read n groups (fewest groups top)) None) None ≡ read v w p → JudgedRead groups top n v w p
accepted_cases true true g t n {v} {w} {p} hx hy e =
    let same = read_same e in
    record { is_value = sym same.0; is_count = sym same.1; is_fewest = sym same.2; ten = leb-true g 10 hx; below = ltb-true n _ hy }
accepted_cases true false g t n hx hy e = refused_read e
accepted_cases false y g t n hx hy e = refused_read e

pub accepted : (groups top n : ℕ) {v w : ℕ} {p : Bool} → judged groups top n ≡ read v w p → JudgedRead groups top n v w p
unfolding judged
accepted g t n e = accepted_cases (leb g 10) (ltb n (2 ^ 64)) g t n refl refl e

-- The other way: what passes the two tests is accepted.
pub judged-read : (groups top n : ℕ) → groups ≤ 10 → n < 2 ^ 64 → judged groups top n ≡ read n groups (fewest groups top)
unfolding judged
judged-read g t n h b = rw (le-leb g 10 h, lt-ltb n (2 ^ 64) b)

-- The fewest bytes: where the last group is zero, it is the only one.
fewest-cases : (p q : Bool) (groups top : ℕ) → eqb groups 1 ≡ p → ltb 0 top ≡ q → (p || q) ≡ true → top ≡ 0 → groups ≡ 1
fewest-cases true q g t hp hq e z = eqb-true g 1 hp
fewest-cases false true g t hp hq e z = let h : 0 < t = ltb-true 0 t hq in absurd (omega arith)
fewest-cases false false g t hp hq e z = absurd (false_true e)
  where
    false_true : false ≡ true → ⊥
    false_true e = let z : ◌≡◌ {A = ℕ} 0 1 = cc in omega arith

pub fewest_alone : (groups top : ℕ) → fewest groups top ≡ true → top ≡ 0 → groups ≡ 1
unfolding fewest
fewest_alone g t e z = fewest-cases (eqb g 1) (ltb 0 t) g t refl refl e z

pub fewest_is : (groups top : ℕ) → (top ≡ 0 → groups ≡ 1) → fewest groups top ≡ true
unfolding fewest
fewest_is g zero h = rw (eq-eqb g 1 (h refl))
fewest_is g (suc t) h = rw (lt-ltb 0 (suc t) (omega arith)) (or_true (eqb g 1))
  where
    or_true : (p : Bool) → (p || true) ≡ true
    or_true true = refl
    or_true false = refl

-- A number that was read: its groups stand at the front, and passed.
pub record Found (s : List ℕ) (v w : ℕ) (p : Bool) : Type 0 where
  pub gs : Groups
  pub at_front : front s ≡ whole gs
  pub passed : JudgedRead (count gs) (highest gs) (value gs) v w p

found_cases : (f : Front) (s : List ℕ) {v w : ℕ} {p : Bool} → front s ≡ f → number_from f ≡ read v w p → Found s v w p
unfolding number_from
found_cases cut s h e = refused_read e
found_cases (whole gs) s h e = record { gs = gs; at_front = h; passed = accepted (count gs) (highest gs) (value gs) e }

pub found : (s : List ℕ) {v w : ℕ} {p : Bool} → number_from (front s) ≡ read v w p → Found s v w p
found s e = found_cases (front s) s refl e

-- ---- the groups at the front, by the first byte

front-last : (b : ℕ) (rest : List ℕ) → b < 128 → front (b ∷ rest) ≡ whole (last b)
unfolding front
front-last b rest h = rw (lt-ltb b 128)

front-more : (b : ℕ) (rest : List ℕ) {gs : Groups} → 128 ≤ b → front rest ≡ whole gs → front (b ∷ rest) ≡ whole (more (b % 128) gs)
unfolding front followed
front-more b rest h e = rw (le-ltb b 128, e)

-- The other way: what the first byte was, where groups were found.
pub data Start (b : ℕ) (rest : List ℕ) (gs : Groups) : Type 0 where
  ends : b < 128 → gs ≡ last b → Start b rest gs
  goes_on : (hs : Groups) → 128 ≤ b → front rest ≡ whole hs → gs ≡ more (b % 128) hs → Start b rest gs

cut_whole : {A : Type 0} {gs : Groups} → cut ≡ whole gs → A
cut_whole {A} {gs} e = let z : ◌≡◌ {A = ℕ} 0 1 = cc in absurd (omega arith)

start-cases : (p : Bool) (f : Front) (b : ℕ) (rest : List ℕ) {gs : Groups} → ltb b 128 ≡ p → front rest ≡ f
    → cond p (whole (last b)) (followed (b % 128) f) ≡ whole gs → Start b rest gs
unfolding followed
start-cases true f b rest {gs} hp hf e = ends (ltb-true b 128 hp) (cc)
start-cases false cut b rest hp hf e = cut_whole e
start-cases false (whole hs) b rest {gs} hp hf e = goes_on hs (ltb-false b 128 hp) hf (cc)

start : (b : ℕ) (rest : List ℕ) {gs : Groups} → front (b ∷ rest) ≡ whole gs → Start b rest gs
unfolding front
start b rest e = start-cases (ltb b 128) (front rest) b rest refl refl e

-- ---- groups are never more than the bytes

within_step : (b : ℕ) (rest : List ℕ) {gs : Groups} → ((hs : Groups) → front rest ≡ whole hs → count hs ≤ length rest)
    → Start b rest gs → count gs ≤ suc (length rest)
unfolding count
within_step b rest {gs} ih (ends h e) = omega (arith, ap count e)
within_step b rest {gs} ih (goes_on hs h f e) = omega (arith, ap count e, ih hs f)

pub front_within : (s : List ℕ) (gs : Groups) → front s ≡ whole gs → count gs ≤ length s
unfolding front
front_within [] gs e = cut_whole e
front_within (b ∷ rest) gs e = within_step b rest (front_within rest) (start b rest e)

-- ---- groups depend on their own bytes only

kept_step : (b : ℕ) (rest t : List ℕ) {gs : Groups} → ((hs : Groups) → front rest ≡ whole hs → front (take (count hs) rest ++ t) ≡ whole hs)
    → Start b rest gs → front (take (count gs) (b ∷ rest) ++ t) ≡ whole gs
unfolding count
kept_step b rest t {gs} ih (ends h e) = rw e (front-last b t h)
kept_step b rest t {gs} ih (goes_on hs h f e) = rw e (front-more b (take (count hs) rest ++ t) h (ih hs f))

pub front-kept : (s t : List ℕ) (gs : Groups) → front s ≡ whole gs → front (take (count gs) s ++ t) ≡ whole gs
unfolding front
front-kept [] t gs e = cut_whole e
front-kept (b ∷ rest) t gs e = kept_step b rest t (front-kept rest t) (start b rest e)

-- ---- bytes in groups, and the groups at the front

-- Bytes in groups: what a reader finds where they stand.
pub record InFront (n : ℕ) (bytes t : List ℕ) : Type 0 where
  pub gs : Groups
  pub at_front : front (bytes ++ t) ≡ whole gs
  pub is_value : value gs ≡ n
  pub is_count : count gs ≡ length bytes

pub groups_in_front : {n : ℕ} {bytes : List ℕ} → InGroups n bytes → (t : List ℕ) → InFront n bytes t
unfolding count value
groups_in_front (last_group {g} h) t = record { gs = last g; at_front = front-last g t h; is_value = refl; is_count = refl }
groups_in_front (then_groups {g} {n} {bytes} h r) t =
    let f = groups_in_front r t in
    record {
      gs = more ((128 + g) % 128) f.gs;
      at_front = front-more (128 + g) (bytes ++ t) (omega arith) f.at_front;
      is_value = omega (arith, f.is_value);
      is_count = ap suc f.is_count;
    }

-- What a reader finds among bytes is in groups.
in_groups_step : (b : ℕ) (rest : List ℕ) {gs : Groups} → b < 256
    → ((hs : Groups) → front rest ≡ whole hs → InGroups (value hs) (take (count hs) rest))
    → Start b rest gs → InGroups (value gs) (take (count gs) (b ∷ rest))
unfolding count value
in_groups_step b rest {gs} l ih (ends h e) = rw e (last_group h)
in_groups_step b rest {gs} l ih (goes_on hs h f e) =
    let whole_byte : 128 + b % 128 ≡ b = omega arith in
    let r : InGroups (b % 128 + 128 * value hs) ((128 + b % 128) ∷ take (count hs) rest) = then_groups {g = b % 128} (omega arith) (ih hs f) in
    rw e (subst (λ (x : ℕ). InGroups (b % 128 + 128 * value hs) (x ∷ take (count hs) rest)) whole_byte r)

pub front_in_groups : (s : List ℕ) (gs : Groups) → ((i : ℕ) → get_or s i 0 < 256) → front s ≡ whole gs → InGroups (value gs) (take (count gs) s)
unfolding front
front_in_groups [] gs hb e = cut_whole e
front_in_groups (b ∷ rest) gs hb e =
    in_groups_step b rest (hb 0) (λ hs. front_in_groups rest hs (λ i. hb (suc i))) (start b rest e)

-- ---- one way of writing a number for each count of groups

pub groups_some : {n : ℕ} {bytes : List ℕ} → InGroups n bytes → 1 ≤ length bytes
groups_some (last_group h) = omega arith
groups_some (then_groups h r) = omega arith

pub groups_same : {m n : ℕ} {x y : List ℕ} → InGroups m x → InGroups n y → m ≡ n → length x ≡ length y → x ≡ y
groups_same (last_group h) (last_group i) e l = ap (λ (j : ℕ). j ∷ []) e
groups_same (last_group h) (then_groups i r) e l = absurd (omega (arith, groups_some r))
groups_same (then_groups h r) (last_group i) e l = absurd (omega (arith, groups_some r))
groups_same (then_groups {g} h r) (then_groups {g = k} i s) e l =
    let low : 128 + g ≡ 128 + k = omega arith in
    ap₂ (λ (j : ℕ) (z : List ℕ). j ∷ z) low (groups_same r s (omega arith) (omega arith))

-- An empty group more.
pub one_wider : {n : ℕ} {bytes : List ℕ} → InGroups n bytes → (wider : List ℕ) × InGroups n wider × (length wider ≡ suc (length bytes))
one_wider (last_group {g} h) =
    let r : InGroups (g + 128 * 0) ((128 + g) ∷ 0 ∷ []) = then_groups h (last_group {g = 0} (omega arith)) in
    let same : g + 128 * 0 ≡ g = omega arith in
    ((128 + g) ∷ 0 ∷ [], subst (λ (x : ℕ). InGroups x ((128 + g) ∷ 0 ∷ [])) same r, refl)
one_wider (then_groups {g} h r) = let w = one_wider r in ((128 + g) ∷ w.0, then_groups h w.1, ap suc w.2)

-- ---- what is written is in groups, and no groups are fewer

-- What one group more makes of the bytes written.
encode-last : (k n : ℕ) → n < 128 → encode_in (suc k) n ≡ n ∷ []
unfolding encode_in
encode-last k n h = rw (lt-ltb n 128)

encode-more : (k n : ℕ) → 128 ≤ n → encode_in (suc k) n ≡ (128 + n % 128) ∷ encode_in k (n / 128)
unfolding encode_in
encode-more k n h = rw (le-ltb n 128)

pub encode_in_groups : (k n : ℕ) → 0 < k → n < 2 ^ (7 * k) → InGroups n (encode_in k n)
encode_in_groups zero n p h = absurd (omega arith)
encode_in_groups (suc k) n p h =
    let e : 7 * suc k ≡ 7 * k + 7 = omega arith in
    let q : n / 128 < 2 ^ (7 * k) = shr_lt (7 * k) 7 (rw e at h) in
    let whole_number : n % 128 + 128 * (n / 128) ≡ n = omega arith in
    ⊎_elim
    (λ l. rw (encode-last k n l) (last_group l))
    (λ l. rw (encode-more k n l)
    (subst (λ (x : ℕ). InGroups x ((128 + n % 128) ∷ encode_in k (n / 128))) whole_number
    (then_groups {g = n % 128} (omega arith) (encode_in_groups k (n / 128) (room k q l) q))))
    (lt-or-le n 128)
  where
    room : (k : ℕ) → n / 128 < 2 ^ (7 * k) → 128 ≤ n → 0 < k
    room zero q l = absurd (omega arith)
    room (suc j) q l = omega arith

-- How long it is, by what comes after the lowest group.
width_small : (k g : ℕ) → g < 128 → length (encode_in (suc k) (g + 128 * 0)) ≡ 1
width_small k g h = ap length (encode-last k (g + 128 * 0) (omega arith))

width-more : (k g n : ℕ) → g < 128 → 0 < n → length (encode_in (suc k) (g + 128 * n)) ≡ suc (length (encode_in k n))
width-more k g n h p =
    let q : (g + 128 * n) / 128 ≡ n = omega arith in
    ap length (encode-more k (g + 128 * n) (omega arith)) ∙ ap (λ (m : ℕ). suc (length (encode_in k m))) q

pub encode_in-fewest : (k : ℕ) {n : ℕ} {bytes : List ℕ} → InGroups n bytes → length bytes ≤ k → length (encode_in k n) ≤ length bytes
encode_in-fewest zero g l = absurd (omega (arith, groups_some g))
encode_in-fewest (suc k) (last_group {g} h) l = omega (arith, ap length (encode-last k g h))
encode_in-fewest (suc k) (then_groups {g} {n} {bytes} h r) l = go n refl (encode_in-fewest k r (omega arith))
  where
    go : (m : ℕ) → n ≡ m → length (encode_in k n) ≤ length bytes → length (encode_in (suc k) (g + 128 * n)) ≤ suc (length bytes)
    go zero e w = rw e (omega (arith, width_small k g h))
    go (suc m) e w = omega (arith, width-more k g n h (omega arith), w)

-- Groups of seven bits each.
abbrev pub Small : Groups → Type 0
Small (last g) = g < 128
Small (more g gs) = (g < 128) × Small gs

small_step : (b : ℕ) (rest : List ℕ) {gs : Groups} → ((hs : Groups) → front rest ≡ whole hs → Small hs) → Start b rest gs → Small gs
small_step b rest ih (ends h e) = rw e h
small_step b rest ih (goes_on hs h f e) = rw e (omega arith, ih hs f)

pub front_small : (s : List ℕ) (gs : Groups) → front s ≡ whole gs → Small gs
unfolding front
front_small [] gs e = cut_whole e
front_small (b ∷ rest) gs e = small_step b rest (front_small rest) (start b rest e)

-- The test for the fewest bytes tells whether there are as many groups as are written.
pub fewest_as_many : (k : ℕ) (gs : Groups) → Small gs → count gs ≤ k → (highest gs ≡ 0 → count gs ≡ 1) → count gs ≡ length (encode_in k (value gs))
unfolding count value highest
fewest_as_many zero gs s l f = absurd (omega (arith, count_positive gs))
fewest_as_many (suc k) (last g) s l f = sym (ap length (encode-last k g s))
fewest_as_many (suc k) (more g gs) s l f =
    let n : 0 < highest gs = positive (highest gs) f in
    ap suc (fewest_as_many k gs s.1 (omega arith) (λ z. absurd (omega arith)))
    ∙ sym (width-more k g (value gs) s.0 (omega (arith, highest-value gs)))
  where
    positive : (h : ℕ) → (h ≡ 0 → suc (count gs) ≡ 1) → 0 < h
    positive zero z = absurd (omega (arith, z refl, count_positive gs))
    positive (suc h) z = omega arith

one_group : (gs : Groups) → count gs ≡ 1 → value gs ≡ highest gs
unfolding count value highest
one_group (last g) e = refl
one_group (more g gs) e = absurd (omega (arith, count_positive gs))

pub as_many_fewest : (k : ℕ) (gs : Groups) → Small gs → count gs ≤ k → count gs ≡ length (encode_in k (value gs)) → highest gs ≡ 0 → count gs ≡ 1
unfolding count value highest
as_many_fewest zero gs s l e z = absurd (omega (arith, count_positive gs))
as_many_fewest (suc k) (last g) s l e z = refl
as_many_fewest (suc k) (more g gs) s l e z = absurd (go (value gs) refl (as_many_fewest k gs s.1 (omega arith)))
  where
    go : (v : ℕ) → value gs ≡ v → (count gs ≡ length (encode_in k (value gs)) → highest gs ≡ 0 → count gs ≡ 1) → ⊥
    go zero h ih =
        omega (arith, e, ap (λ (x : ℕ). length (encode_in (suc k) (g + 128 * x))) h, width_small k g s.0, count_positive gs)
    go (suc v) h ih =
        let same : count gs ≡ length (encode_in k (value gs)) = omega (arith, e, width-more k g (value gs) s.0 (omega arith)) in
        omega (arith, one_group gs (ih same z))

-- ---- how long, and of which bytes

pub length-encode_in : (k n : ℕ) → length (encode_in k n) ≤ k
unfolding encode_in
length-encode_in zero n = omega arith
length-encode_in (suc k) n =
    ⊎_elim (λ h. rw (lt-ltb n 128 h) (omega arith)) (λ h. rw (le-ltb n 128 h) (omega (arith, length-encode_in k (n / 128)))) (lt-or-le n 128)

pub encode_in_there : (k n : ℕ) → 0 < length (encode_in (suc k) n)
unfolding encode_in
encode_in_there k n = ⊎_elim (λ h. rw (lt-ltb n 128 h) (omega arith)) (λ h. rw (le-ltb n 128 h) (omega arith)) (lt-or-le n 128)

pub encode_in_bytes : (k n i : ℕ) → get_or (encode_in k n) i 0 < 256
unfolding encode_in
encode_in_bytes zero n i = omega arith
encode_in_bytes (suc k) n i =
    ⊎_elim (λ h. rw (lt-ltb n 128 h) (one i h)) (λ h. rw (le-ltb n 128 h) (next i (encode_in_bytes k (n / 128)))) (lt-or-le n 128)
  where
    one : (i : ℕ) → n < 128 → get_or (n ∷ []) i 0 < 256
    one zero h = omega arith
    one (suc i) h = omega arith

    next : (i : ℕ) → ((j : ℕ) → get_or (encode_in k (n / 128)) j 0 < 256) → get_or ((128 + n % 128) ∷ encode_in k (n / 128)) i 0 < 256
    next zero h = omega arith
    next (suc i) h = h i

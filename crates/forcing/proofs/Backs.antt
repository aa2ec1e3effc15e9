-- Boards: variables set and opened again.
use Rattle.std.proofs.Common.{◌≡◌, ℕ, zero, suc, ◌+◌, ◌-◌, ◌<◌, ◌≤◌, List, [], ◌∷◌, ◌++◌, length, get_or, take, drop, set, replicate, sym, refl, ap, ◌∙◌, arith, length-set, length-take, None, Some}
use Rattle.std.proofs.lemmas.List.{take_more, take_all, drop-append-le, take-append-le, set-set, set-get_or, drop_all}
use Rattle.trials.specs.Values.{Value, opens}
use Rattle.forcing.specs.Boards.{unset, Back}

pub opens_none : opens [] ≡ 0
unfolding opens
opens_none = refl

pub opens_all : (n : ℕ) → opens (replicate n None) ≡ n
unfolding opens
opens_all zero = refl
opens_all (suc n) = ap suc (opens_all n)

pub opens_reset : (a : List Value) (v : ℕ) → opens (set a v None) ≤ opens a + 1
unfolding opens
opens_reset [] v = omega arith
opens_reset (None ∷ a) zero = omega arith
opens_reset (Some b ∷ a) zero = omega arith
opens_reset (None ∷ a) (suc v) = let h = opens_reset a v in omega arith
opens_reset (Some b ∷ a) (suc v) = opens_reset a v

unset_push : (a : List Value) (vs : List ℕ) (w : ℕ) → unset a (vs ++ w ∷ []) ≡ unset (set a w None) vs
unfolding unset
unset_push a [] w = refl
unset_push a (v ∷ vs) w = ap (λ z. set z v None) (unset_push a vs w)

pub unset_none : (a : List Value) → unset a [] ≡ a
unfolding unset
unset_none a = refl

-- the variable that was set last opens first
pub unset_last : (a : List Value) (ts : List ℕ) (m : ℕ) → m < length ts → unset (set a (get_or ts (length ts - 1) 0) None) (drop m (take (length ts - 1) ts)) ≡ unset a (drop m ts)
unset_last a ts m h =
    let k = length ts - 1 in
    let j : k < length ts = omega arith in
    let e : k + 1 ≡ length ts = omega arith in
    let all : ts ≡ take k ts ++ get_or ts k 0 ∷ [] = sym (take_all (k + 1) ts (omega arith)) ∙ take_more ts k 0 j in
    let long : m ≤ length (take k ts) = simp length-take (omega arith) in
    let d : drop m ts ≡ drop m (take k ts) ++ get_or ts k 0 ∷ [] = ap (drop m) all ∙ drop-append-le m (take k ts) (get_or ts k 0 ∷ []) long in
    sym (ap (unset a) d ∙ unset_push a (drop m (take k ts)) (get_or ts k 0))

pub back_none : {a : List Value} {ts : List ℕ} → Back a ts a ts
back_none {a} {ts} = record { front = take_all (length ts) ts (omega arith); undone = ap (unset a) (drop_all (length ts) ts (omega arith)) ∙ unset_none a; long = refl }

pub back_within : {a b : List Value} {ts us : List ℕ} → Back a ts b us → length ts ≤ length us
back_within {ts = ts} {us} r = omega (arith, ap length r.front, length-take (length ts) us)

pub back_put : {a b : List Value} {ts us : List ℕ} → Back a ts b us → (v : ℕ) (x : Value) → get_or b v None ≡ None → Back a ts (set b v x) (us ++ v ∷ [])
back_put {b = b} {ts} {us} r v x o =
    let n = length ts in
    let l = back_within r in
    let s : set (set b v x) v None ≡ b = set-set b v x None ∙ ap (set b v) (sym o) ∙ set-get_or b v None in
    record {
      front = take-append-le n us (v ∷ []) l ∙ r.front;
      undone = ap (unset (set b v x)) (drop-append-le n us (v ∷ []) l) ∙ unset_push (set b v x) (drop n us) v ∙ ap (λ z. unset z (drop n us)) s ∙ r.undone;
      long = length-set b v x ∙ r.long;
    }

pub unset_long : (a : List Value) (vs : List ℕ) → length (unset a vs) ≡ length a
unfolding unset
unset_long a [] = refl
unset_long a (v ∷ vs) = length-set (unset a vs) v None ∙ unset_long a vs

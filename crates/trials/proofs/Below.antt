-- Assignments that say more.
use Rattle.std.proofs.lemmas.Grind.{common_steps}
use Rattle.std.proofs.Common.{◌≡◌, ℕ, List, [], ◌∷◌, length, get_or, set, replicate, arith, ℤ, sym, refl, ap, ◌∙◌, inl, inr, None, Some, true, false, Bool}
use Rattle.std.proofs.lemmas.Bool.{cases_lt}
use Rattle.std.proofs.lemmas.List.{ext_get_or, get_or-replicate, get_or_past, length-replicate}
use Rattle.trials.specs.Values.{Value, flip, value, sign, holding}
use Rattle.holder.specs.Widest.{variable}
use Rattle.trials.specs.Forcing.{live}

-- what a says, b says too
abbrev pub Below : List Value → List Value → Type 0
Below a b = (v : ℕ) (x : Value) → get_or a v None ≡ x → (x ≡ None → ⊥) → get_or b v None ≡ x

pub set_not_open : {b : Bool} → ◌≡◌ {A = Value} (Some b) None → ⊥
set_not_open e = cc

pub flip_twice : (x : Value) → flip (flip x) ≡ x
flip_twice x = grind (arith, common_steps)

pub flip_back : (x y : Value) → flip x ≡ y → x ≡ flip y
flip_back x y e = sym (flip_twice x) ∙ ap flip e

pub below_none : (a : List Value) → Below a a
below_none a v x e s = e

pub below_trans : (a b c : List Value) → Below a b → Below b c → Below a c
below_trans a b c f g v x e s = g v x (f v x e s) s

module _ (a b : List Value) (less : Below a b) where
  pub below_value : (l : ℤ) (x : Value) → value a l ≡ x → (x ≡ None → ⊥) → value b l ≡ x
  below_value l x h e = grind (arith, common_steps)

  live_head : (l : ℤ) (c : List ℤ) → live b (live a c) ≡ live b c → (x : Value) → value a l ≡ x → live b (live a (l ∷ c)) ≡ live b (l ∷ c)
  unfolding live
  live_head l c h x e = grind (arith, common_steps)

  -- what is live in b, is live in a
  pub live_below : (c : List ℤ) → live b (live a c) ≡ live b c
  unfolding live
  live_below [] = refl
  live_below (l ∷ c) = live_head l c (live_below c) (value a l) refl

pub sign_true : (b : List Value) (l : ℤ) → value b l ≡ Some true → get_or b (variable l) None ≡ sign l
sign_true b l h = grind (arith, common_steps)

-- one variable more
pub below_set : (a b : List Value) (w : ℕ) (y : Value) → Below a b → get_or b w None ≡ y → Below (set a w y) b
below_set a b w y h e f g k p = grind (arith, common_steps)

pub below_holding : (a b : List Value) (l : ℤ) → Below a b → value b l ≡ Some true → Below (holding a l) b
below_holding a b l h e = below_set a b (variable l) (sign l) h (sign_true b l e)

pub below_put : (a : List Value) (v : ℕ) (x : Value) → get_or a v None ≡ None → Below a (set a v x)
below_put a v x h e f g k = grind (arith, common_steps)

same_value : (x y : Value) → ((z : Value) → x ≡ z → (z ≡ None → ⊥) → y ≡ z) → ((z : Value) → y ≡ z → (z ≡ None → ⊥) → x ≡ z) → x ≡ y
same_value None None f g = refl
same_value None (Some b) f g = g (Some b) refl set_not_open
same_value (Some b) y f g = sym (f (Some b) refl set_not_open)

pub below_both : (a b : List Value) → length a ≡ length b → Below a b → Below b a → a ≡ b
below_both a b e f g = ext_get_or None a b e (λ i l. same_value (get_or a i None) (get_or b i None) (f i) (g i))

pub replicate_at : {X : Type 0} (k i : ℕ) (x : X) → get_or (replicate k x) i x ≡ x
replicate_at k i x = elim (cases_lt i k) [ inl l ↦ get_or-replicate k i x x l | inr p ↦ get_or_past (replicate k x) i x (omega (arith, length-replicate k x)) ]

pub true_false : ◌≡◌ {A = Value} (Some true) (Some false) → ⊥
true_false e = cc

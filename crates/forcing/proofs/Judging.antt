-- A clause, literal by literal.
use Rattle.std.proofs.lemmas.Grind.{common_steps}
use Rattle.std.proofs.Common.{◌≡◌, ℕ, Bool, true, false, cond, not, ◌+◌, ◌<◌, ◌≤◌, length, get_or, drop, arith, List, [], ◌∷◌, filter, Bor, Iter, ℤ, pos, None, Some, Option, refl, sym, ap, ◌∙◌, subst, is_some}
use Rattle.std.proofs.lemmas.List.{at_drop_more, at_drop_all}
use Rattle.std.proofs.lemmas.Iterator.{YieldsList, YieldsList-from_slice}
use Rattle.std.proofs.lemmas.Iterator.Consumers.{YieldsList-from_filter, YieldsList-at}
use Rattle.std.proofs.iter.Yields.{fronts}
use Rattle.std.specs.declared.iter.Filter.{Filter}
use Rattle.std.specs.Fn.{CalledAt, Mut}
use Rattle.std.specs.Slice.Iter.{iter_rest}
use Rattle.std.specs.Iterator.Adapters.{filter_source, filter_callee, filter_steps}
use Rattle.trials.specs.Values.{Value, value, is_false}
use Rattle.trials.specs.Forcing.{live, Calm}

-- whether a literal is not false
abbrev pub lives : List Value → ℤ → Bool
lives a l = not (is_false (value a l))

live_filter : (a : List Value) (c : List ℤ) → filter (lives a) c ≡ live a c
unfolding live
live_filter a [] = refl
live_filter a (l ∷ c) = elim (is_false (value a l)) as (λ b. cond (not b) (l ∷ filter (lives a) c) (filter (lives a) c) ≡ cond b (live a c) (l ∷ live a c)) [ true ↦ live_filter a c | false ↦ ap (λ z. l ∷ z) (live_filter a c) ]

-- a filter by that test, of which a step is known, gives the literals that are not false
pub yields_live : (a : List Value) (c : List ℤ) {F : Type 0} {s : Filter (Iter ℤ) F} {t : Iter ℤ} (g : Mut F (Bor (Bor ℤ) × Unit {0}) Bool) {f : F} (r : Option (Bor ℤ)) (u : Filter (Iter ℤ) F) → filter_steps fronts g s r u → filter_source s ≡ t → iter_rest t ≡ c → filter_callee s ≡ f → ((x : Bor ℤ) (b : Bool) (q : F) → CalledAt g f x b q → (q ≡ f) × (b ≡ lives a x.now)) → YieldsList (filter_steps fronts g) (λ y. y.now) s (live a c)
yields_live a c g r u p d e f h = subst (YieldsList _ _ _) (live_filter a c) (YieldsList-from_filter g (lives a) (YieldsList-at d (YieldsList-from_slice c e)) f h)

module _ (a : List Value) (c : List ℤ) where
  -- the first literal that is not false is true
  pub calm_set : (l : ℤ) → 0 < length (live a c) → l ≡ get_or (live a c) 0 l → (value a l ≡ None → ⊥) → Calm a c
  calm_set l h e f = grind (arith, common_steps)

  -- two literals that are not false
  pub calm_two : 1 < length (live a c) → Calm a c
  calm_two h = record { alive = λ d. omega (arith, ap length d); still = λ k d o. omega (arith, ap length d) }

pub none_from : {A : Type 0} (o : Option A) → is_some o ≡ false → o ≡ None
none_from o h = grind (arith, common_steps)

pub some_from : {A : Type 0} (o : Option A) → is_some o ≡ true → (x : A) × (o ≡ Some x)
some_from o h = grind (arith, common_steps)

-- a clause from its literal k on
module _ (a : List Value) (c : List ℤ) (k : ℕ) where
  pub live_false : k < length c → is_false (value a (get_or c k (pos 0))) ≡ true → live a (drop k c) ≡ live a (drop (k + 1) c)
  unfolding live
  live_false l e = at_drop_more (live a) c k (pos 0) l ∙ rw e

  pub live_stands : k < length c → is_false (value a (get_or c k (pos 0))) ≡ false → live a (drop k c) ≡ get_or c k (pos 0) ∷ live a (drop (k + 1) c)
  unfolding live
  live_stands l e = at_drop_more (live a) c k (pos 0) l ∙ rw e

  pub live_end : length c ≤ k → live a (drop k c) ≡ []
  unfolding live
  live_end l = at_drop_all (live a) c k l

module _ (a : List Value) (c : List ℤ) (l : ℤ) (ls : List ℤ) (lives : live a c ≡ l ∷ ls) where
  -- a literal that is true
  pub calm_true : value a l ≡ Some true → Calm a c
  calm_true e = calm_set a c l (omega (arith, ap length lives)) (sym (ap (λ z. get_or z 0 l) lives)) (λ o. let z : ◌≡◌ {A = Value} (Some true) None = sym e ∙ o in cc)

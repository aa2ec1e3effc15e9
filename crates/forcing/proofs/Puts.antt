-- Variables that are set, and picked.
use Rattle.std.proofs.lemmas.Grind.{common_steps}
use Rattle.std.proofs.Common.{◌≡◌, ℕ, suc, ◌<◌, ◌≤◌, true, ◌&&◌, ltb, List, [], ◌∷◌, ◌++◌, length, get_or, set, Some, None, Option, ap, inl, inr, arith, is_none, is_some}
use Rattle.std.proofs.lemmas.Bool.{and_parts, and_from, ltb-true, lt-ltb, cases_lt}
use Rattle.trials.specs.Values.{Value, opens}
use Rattle.trials.specs.Exist.{opens_set}
use Rattle.forcing.specs.Boards.{settable, WasPut}
use Rattle.forcing.specs.Picks.{SetBetween, Picked, FirstOf}

pub none_is : (x : Value) → is_none x ≡ true → x ≡ None
none_is x e = grind arith

module _ (a : List Value) (v : ℕ) (x : Value) where
  pub put_fewer : settable a v x ≡ true → opens a ≡ suc (opens (set a v x))
  put_fewer e = grind (arith, opens_set)

  -- an open variable is set
  pub put_done : (ts : List ℕ) (b : List Value) (us : List ℕ) → WasPut a ts v x b us → v < length a → get_or a v None ≡ None → (x ≡ None → ⊥) → (b ≡ set a v x) × (us ≡ ts ++ v ∷ [])
  put_done ts b us h e f g = grind (arith, common_steps)

set_not : (x : Value) → is_some x ≡ true → x ≡ None → ⊥
set_not x e o = grind arith

not_set : (x : Value) → (x ≡ None → ⊥) → is_some x ≡ true
not_set x s = grind arith

module _ (a : List Value) (v : ℕ) (x : Value) where
  pub settable_parts : settable a v x ≡ true → (v < length a) × (get_or a v None ≡ None) × (x ≡ None → ⊥)
  settable_parts e =
      let t = and_parts (ltb v (length a)) (is_none (get_or a v None) && is_some x) e in
      let u = and_parts (is_none (get_or a v None)) (is_some x) t.1 in
      (ltb-true v (length a) t.0, none_is (get_or a v None) u.0, set_not x u.1)

  pub settable_from : v < length a → get_or a v None ≡ None → (x ≡ None → ⊥) → settable a v x ≡ true
  settable_from l o s = and_from _ _ (lt-ltb v (length a) l) (and_from _ _ (ap is_none o) (not_set x s))

pub picks_first : (from n : ℕ) (a : List Value) (r : Option ℕ) → 1 ≤ from → SetBetween 1 from a → Picked from n a r → FirstOf n a r
picks_first from n a None low s p = λ w l h o. elim (cases_lt w from) [ inl k ↦ s w l k o | inr k ↦ p w k h o ]
picks_first from n a (Some v) low s p = record {
  low = omega (arith, p.low);
  high = p.high;
  opened = p.opened;
  before = λ w l h o. elim (cases_lt w from) [ inl k ↦ s w l k o | inr k ↦ p.before w k h o ];
}

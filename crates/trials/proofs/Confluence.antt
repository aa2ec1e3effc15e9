-- Forcing is confluent.
use Rattle.std.proofs.Common.{◌≡◌, ◌⊎◌, List, [], ◌∷◌, length, get_or, ℤ, sym, refl, ap, ◌∙◌, inl, inr, length-set, None, Some, true, false}
use Rattle.trials.specs.Values.{Value, value, sign, holding}
use Rattle.holder.specs.Widest.{variable}
use Rattle.trials.specs.Forcing.{live, Conflict, Forced, Forcing, rest, next, Maximal, Quiet, Confluent}
use Rattle.trials.specs.Exist.{open_at}
use Rattle.trials.proofs.Below.{Below, below_none, below_trans, live_below, below_holding, below_put, below_both}

module _ (cs : List (List ℤ)) where
  pub forcing_below : {a b : List Value} → Forcing cs a b → Below a b
  forcing_below {a} rest = below_none a
  forcing_below {a} {b} (next l f r) = below_trans a (holding a l) b (below_put a (variable l) (sign l) (open_at a l f.opened)) (forcing_below r)

  pub forcing_long : {a b : List Value} → Forcing cs a b → length b ≡ length a
  forcing_long rest = refl
  forcing_long {a} (next l f r) = forcing_long r ∙ length-set a (variable l) (sign l)

  pub forcing_more : {a b c : List Value} → Forcing cs a b → Forcing cs b c → Forcing cs a c
  forcing_more rest s = s
  forcing_more (next l f r) s = next l f (forcing_more r s)

  -- in an assignment that says more, the clause that forces l has at most l left
  module _ (a b : List Value) (l : ℤ) (less : Below a b) (f : Forced cs a l) where
    left_over : live b (get_or cs f.clause []) ≡ live b (l ∷ [])
    left_over = sym (live_below a b less (get_or cs f.clause [])) ∙ ap (live b) f.alone

    met_by : Maximal cs b → (x : Value) → value b l ≡ x → (value b l ≡ Some true) ⊎ Conflict cs b
    unfolding live
    met_by m (Some true) e = inl e
    met_by m (Some false) e = inr (record { clause = f.clause; held = f.held; dead = left_over ∙ rw e })
    met_by m None e = absurd (m l (record { clause = f.clause; held = f.held; alone = left_over ∙ rw e; opened = e }))

    met : Maximal cs b → (value b l ≡ Some true) ⊎ Conflict cs b
    met m = met_by m (value b l) refl

  -- a maximal assignment without conflict has all that is forced on the way
  pub along : (m : List Value) → Maximal cs m → {a b : List Value} → Forcing cs a b → Below a m → Below b m ⊎ Conflict cs m
  along m h rest less = inl less
  along m h {a} (next l f r) less = elim (met a m l less f h) [ inl e ↦ along m h r (below_holding a m l less e) | inr c ↦ inr c ]

  pub conflict_below : (a b : List Value) → Below a b → Conflict cs a → Conflict cs b
  unfolding live
  conflict_below a b less c = record { clause = c.clause; held = c.held; dead = sym (live_below a b less (get_or cs c.clause [])) ∙ ap (live b) c.dead }

  pub quiet_maximal : (a : List Value) → Quiet cs a → Maximal cs a
  quiet_maximal a q l f = (q f.clause f.held).still l f.alone f.opened

  pub quiet_free : (a : List Value) → Quiet cs a → Conflict cs a → ⊥
  quiet_free a q c = (q c.clause c.held).alive c.dead

  pub same_conflict : (a b b' : List Value) → Forcing cs a b → Conflict cs b → Forcing cs a b' → Maximal cs b' → Conflict cs b'
  same_conflict a b b' f c f' m = elim (along b' m f (forcing_below f')) [ inl less ↦ conflict_below b b' less c | inr d ↦ d ]

  within : (a b b' : List Value) → Forcing cs a b → Forcing cs a b' → Quiet cs b' → Below b b'
  within a b b' f f' q = elim (along b' (quiet_maximal b' q) f (forcing_below f')) [ inl less ↦ less | inr c ↦ absurd (quiet_free b' q c) ]

  pub same_end : (a b b' : List Value) → Forcing cs a b → Quiet cs b → Forcing cs a b' → Quiet cs b' → b ≡ b'
  same_end a b b' f q f' q' = below_both b b' (forcing_long f ∙ sym (forcing_long f')) (within a b b' f f' q') (within a b' b f' f q)

pub confluent : Confluent
confluent = record { same_end = same_end; same_conflict = same_conflict }

-- One forced literal more.
use Rattle.std.proofs.Common.{◌≡◌, ℕ, ◌<◌, List, [], ◌∷◌, ◌++◌, length, get_or, set, ℤ, sym, ap, ◌∙◌, subst, arith, None}
use Rattle.holder.specs.Widest.{variable}
use Rattle.trials.specs.Values.{Value, sign, holding, opens}
use Rattle.trials.specs.Forcing.{Forced, Forcing, rest, next}
use Rattle.trials.specs.Exist.{Within, forced_within, open_at, opens_set, sign_set}
use Rattle.forcing.specs.Boards.{Back}
use Rattle.forcing.proofs.Backs.{back_none, back_put}
use Rattle.trials.proofs.Confluence.{forcing_more}

-- how far forcing from a has come
pub record Come (cs : List (List ℤ)) (a : List Value) (ts : List ℕ) (b : List Value) (us : List ℕ) : Type 0 where
  pub run : Forcing cs a b
  pub back : Back a ts b us

pub come_none : {cs : List (List ℤ)} {a : List Value} {ts : List ℕ} → Come cs a ts a ts
come_none = record { run = rest; back = back_none }

module _ (cs : List (List ℤ)) (b : List Value) (l : ℤ) (f : Forced cs b l) (v : ℕ) (x : Value) (named : v ≡ variable l) (signed : x ≡ sign l) where
  pub forced_open : get_or b v None ≡ None
  forced_open = subst (λ (z : ℕ). get_or b z None ≡ None) (sym named) (open_at b l f.opened)

  pub forced_set : x ≡ None → ⊥
  forced_set e = sign_set l (sym signed ∙ e)

  pub forced_in : Within (length b) cs → v < length b
  forced_in w = let h = forced_within (length b) cs b l w f in omega arith

  pub come_more : (a : List Value) (ts us : List ℕ) → Come cs a ts b us → Come cs a ts (set b v x) (us ++ v ∷ [])
  come_more a ts us r =
      let same : holding b l ≡ set b v x = ap (λ (z : ℕ). set b z (sign l)) (sym named) ∙ ap (set b v) (sym signed) in
      let one : Forcing cs b (set b v x) = subst (λ (z : List Value). Forcing cs b z) same (next l f rest) in
      record { run = forcing_more cs r.run one; back = back_put r.back v x forced_open }

module _ (cs : List (List ℤ)) (b : List Value) (l : ℤ) (f : Forced cs b l) (v : ℕ) (x : Value) (named : v ≡ variable l) (signed : x ≡ sign l) where
  pub forced_fewer : Within (length b) cs → opens (set b v x) < opens b
  forced_fewer w = omega (arith, opens_set b v x (forced_in cs b l f v x named signed w) (forced_open cs b l f v x named signed) (forced_set cs b l f v x named signed))

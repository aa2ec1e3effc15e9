use Rattle.std.proofs.Common.{rules, tests, ◌≡◌, true, false, is_some, None, [], ◌∷◌, sym, refl, ap, ◌∙◌, w32, SFits}
use Rattle.std.proofs.lemmas.Int.{to_z-of_z}
use Rattle.std.proofs.lemmas.Iterator.Consumers.{YieldsList-turn, YieldsList-end}
use Rattle.trials.specs.Values.{value}
use Rattle.forcing.specs.Judgements.{JudgedAs}
use Rattle.forcing.specs.declared.judge.Judgement.TheVariants as judgement
use Rattle.forcing.proofs.Judging.{yields_live, calm_set, calm_two, none_from, some_from}
use Rattle.forcing.proofs.judge.judge.Goals.{then-is_some-via-then-is_some, then-is_some-via-else-is_some+then-is_some-2}
use Rattle.forcing.proofs.judge.judge.Goals as goal

pub returns-in_default : goal.returns-in_default
returns-in_default c =
    let e = yields_live c.args.values.now c.args.clause.now _ _ _ c.next.ensures.steps c.filter-live.ensures.source (cc) c.filter-live.ensures.closure (λ x b q k. search (rules, tests)) in
    sym (YieldsList-end e [] _ refl _ _ c.in_default.is c.next.ensures.steps).0

pub returns-then-is_some : goal.returns-then-is_some
returns-then-is_some c =
    let a = c.args.values.now in
    let k = c.args.clause.now in
    let l = c.in-Some.lit.now in
    let f : SFits w32 l = search rules in
    let e = yields_live a k _ _ _ c.next.ensures.steps c.filter-live.ensures.source (cc) c.filter-live.ensures.closure (λ x b q k. search (rules, tests)) in
    let t = YieldsList-turn e [] _ refl _ _ c.in-Some.lit c.in-Some.is c.next.ensures.steps in
    let calm : JudgedAs a k judgement.Calm = elim c.then-is_some.branch [
      | then-is_some-via-then-is_some w ↦ calm_set a k l t.0 t.1 (λ e. let v : c.value_of.result ≡ None = c.value_of.ensures ∙ ap (value a) (to_z-of_z w32 l f) ∙ e in let t : true ≡ false = w.if-is_some.ensures ∙ ap is_some v in cc)
      | then-is_some-via-else-is_some+then-is_some-2 w ↦ (
          let s = some_from w.next-else-is_some.result (sym w.if-is_some-2.ensures) in
          calm_two a k (YieldsList-turn e (c.in-Some.lit ∷ []) _ (_, rw c.in-Some.is at c.next.ensures.steps, refl) _ _ s.0 s.1 w.next-else-is_some.ensures.steps).0)
    ] in
    search (rules, tests, calm)

pub returns : goal.returns
returns c =
    let l = c.in-Some.lit.now in
    let f : SFits w32 l = search rules in
    let e = yields_live c.args.values.now c.args.clause.now _ _ _ c.next.ensures.steps c.filter-live.ensures.source (cc) c.filter-live.ensures.closure (λ x b q k. search (rules, tests)) in
    let z = YieldsList-end e (c.in-Some.lit ∷ []) _ (_, rw c.in-Some.is at c.next.ensures.steps, refl) _ _ (none_from _ (sym c.if-is_some-2.ensures)) c.next-else-is_some.ensures.steps in
    (sym z.0 ∙ ap (λ z. z ∷ []) (sym (to_z-of_z w32 l f)), sym c.value_of.ensures ∙ none_from _ (sym c.if-is_some.ensures))

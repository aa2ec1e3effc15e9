use Rattle.std.proofs.Common.{◌≡◌, ◌<◌, [], ◌∷◌, length, get_or, None, sym, ap, ◌∙◌, subst, arith, w32, SFits, rules}
use Rattle.std.proofs.lemmas.Int.{to_z-of_z}
use Rattle.std.proofs.lemmas.Iterator.Consumers.{YieldsList-from_first, YieldsList-turn}
use Rattle.std.proofs.lemmas.List.{length_push, get_or_default}
use Rattle.holder.specs.Widest.{variable}
use Rattle.clause_store.specs.Made.{stood_of}
use Rattle.trials.specs.Values.{value, sign}
use Rattle.trials.specs.Exist.{Within}
use Rattle.trials.specs.Forcing.{live, Calm}
use Rattle.forcing.specs.Boards.{assigned, trailed}
use Rattle.forcing.proofs.Backs.{back_within}
use Rattle.propagation.proofs.Steps.{come_none}
use Rattle.propagation.proofs.Puts.{judged, step}
use Rattle.propagation.proofs.Watching.{watched_calm}
use Rattle.propagation.proofs.wake.wake.Goals.{In-Some}
use Rattle.propagation.proofs.wake.wake.Goals as goal

-- the clause that is looked at
looked : (c : In-Some) → (length c.clauses.yielded < length (stood_of c.args.store.now).held) × (c.in-Some.clause.now ≡ get_or (stood_of c.args.store.now).held (length c.clauses.yielded) [])
looked c =
    let cs = (stood_of c.args.store.now).held in
    let n = length c.clauses.yielded in
    let t = YieldsList-turn (YieldsList-from_first (λ y. y.now) (λ left. left) cs (c.into_iter-clause-iterator.ensures.into_iter_gives ∙ c.clauses-clause-items.ensures.value)) c.clauses.yielded _ c.clauses.yielded_by _ _ c.in-Some.clause c.in-Some.is c.next.ensures.steps in
    (t.0, t.1 ∙ get_or_default cs n c.in-Some.clause.now [] t.0)

pub clauses-init : goal.clauses-init
clauses-init c wi = (come_none, λ k h. absurd (let z : ⊥ = omega arith in z))

pub clauses-preserved : goal.clauses-preserved
clauses-preserved c wi =
    let m = c.clauses.invariant wi in
    (m.0, watched_calm _ _ _ _ _ _ (length_push c.clauses.yielded c.in-Some.clause) (judged Calm c.values.ensures (looked (goal.at.clauses-preserved c).In-Some).1 c.in-Calm.ensures) m.1)

pub clauses-preserved-in-Forces : goal.clauses-preserved-in-Forces
clauses-preserved-in-Forces c wi =
    let cs = (stood_of c.args.store.now).held in
    let b = assigned c.clauses.board in
    let n = length c.clauses.yielded in
    let t = looked (goal.at.clauses-preserved-in-Forces c).In-Some in
    let m = c.clauses.invariant wi in
    let l = c.in-Forces.lit in
    let e = to_z-of_z w32 l (let f : SFits w32 l = search rules in f) in
    let w : Within (length b) cs = subst (λ z. Within z cs) (sym m.0.back.long) wi in
    let s = step cs b (trailed c.clauses.board) n l c.variable.result c.sign.result w t.0 (judged (λ a k. (live a k ≡ l ∷ []) × (value a l ≡ None)) c.values.ensures t.1 c.in-Forces.ensures) (c.variable.ensures ∙ ap variable e) (c.sign.ensures ∙ ap sign e) _ _ c.put.ensures in (
      s.come _ _ m.0,
      watched_calm _ _ _ _ _ _ (length_push c.clauses.yielded c.in-Some.clause) s.calm (λ i h. s.kept (get_or cs i []) _ ⊥ (back_within m.0.back) (m.1 i h)),
    )

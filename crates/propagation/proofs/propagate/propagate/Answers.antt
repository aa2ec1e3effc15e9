use Rattle.std.proofs.Common.{◌≡◌, ◌+◌, ◌<◌, ◌≤◌, inl, inr, ℕ, List, [], ◌∷◌, length, get_or, None, Some, slice_get, sym, ap, ◌∙◌, subst, arith, w32, SFits, rules}
use Rattle.std.proofs.lemmas.Int.{to_z-of_z}
use Rattle.std.proofs.lemmas.Option.{slice_get_cases, slice_get_within}
use Rattle.holder.specs.Widest.{variable}
use Rattle.clause_store.specs.Made.{stood_of}
use Rattle.trials.specs.Values.{value, sign}
use Rattle.trials.specs.Exist.{Within}
use Rattle.trials.specs.Forcing.{live, Calm}
use Rattle.forcing.specs.Boards.{assigned, trailed}
use Rattle.propagation.proofs.Steps.{come_none}
use Rattle.propagation.proofs.Puts.{judged, step}
use Rattle.propagation.proofs.Waiting.{awake_end, awake_visited, awake_quiet}
use Rattle.propagation.proofs.Turning.{Turning, turning, depth_falls, owner_below}
use Rattle.propagation.proofs.Comes.{come_trans}
use Rattle.propagation.specs.Chains.{entry_of}
use Rattle.propagation.specs.Made.{chains}
use Rattle.propagation.specs.Waits.{Ready, against}
use Rattle.propagation.proofs.propagate.propagate.Goals.{In-Some, In-Some-entry, After-against-link}
use Rattle.propagation.proofs.propagate.propagate.Goals as goal

-- the variable of the queue
queued : (c : In-Some) → slice_get (trailed c.queue.board) c.queue.from ≡ Some c.in-Some.v
queued c = sym c.nth_set.ensures ∙ c.in-Some.is

in_queue : (c : In-Some) → c.queue.from < length (trailed c.queue.board)
in_queue c = slice_get_within _ _ _ (queued c)

-- its chain
turned : (c : After-against-link) → Ready (stood_of c.args.store.now).held (chains c.args.index.now) (assigned c.args.board.now) (trailed c.args.board.now) c.args.start → Turning (stood_of c.args.store.now).held (chains c.args.index.now) (assigned c.queue.board) (trailed c.queue.board) (c.queue.from + 1) c.against-link.result
turned c rd =
    let q = c.queue.invariant rd in
    let k : slice_get (trailed c.queue.board) c.queue.from ≡ Some c.in-Some.v = sym c.nth_set.ensures ∙ c.in-Some.is in
    turning _ _ _ _ _ rd _ _ _ q.0 q.2 (slice_get_within _ _ _ k) c.in-Some.v _ k (c.against-link.ensures ∙ ap (against (chains c.args.index.now) c.in-Some.v) (c.value_at.ensures ∙ ap (λ z. get_or z c.in-Some.v None) c.values.ensures))

-- the clause of the chain
linked : (c : In-Some-entry) → entry_of (chains c.args.index.now) c.chain.link ≡ Some c.in-Some-entry.entry
linked c = sym c.entry.ensures ∙ c.in-Some-entry.is

pub queue-init : goal.queue-init
queue-init c rd = (come_none, rd.low, rd.awake)

pub overflow_add-from : goal.overflow_add-from
overflow_add-from c = let w = in_queue (goal.at.overflow_add-from c).In-Some in search rules

pub queue-smaller : goal.queue-smaller
queue-smaller c = omega (arith, in_queue (goal.at.queue-smaller c).In-Some, c.queue.board.few, c.queue.board.trail.ok)

pub chain-init : goal.chain-init
chain-init c t = (come_none, t.low, t.awake)

pub queue-preserved : goal.queue-preserved
queue-preserved c rd =
    let m = c.chain.invariant (turned (goal.at.queue-preserved c).After-against-link rd) in
    (come_trans (c.queue.invariant rd).0 m.0, m.1, awake_end _ _ _ _ _ c.chain.link (sym c.entry.ensures ∙ c.in_default-entry.is) m.2)

pub chain-smaller : goal.chain-smaller
chain-smaller c = depth_falls _ c.args.index.now.falling _ _ (linked (goal.at.chain-smaller c).In-Some-entry)

pub chain-smaller-in-Forces : goal.chain-smaller-in-Forces
chain-smaller-in-Forces c = depth_falls _ c.args.index.now.falling _ _ (linked (goal.at.chain-smaller-in-Forces c).In-Some-entry)

pub chain-preserved : goal.chain-preserved
chain-preserved c t =
    let m = c.chain.invariant t in
    (m.0, m.1, awake_visited _ _ _ _ _ _ _ (linked (goal.at.chain-preserved c).In-Some-entry) (judged Calm c.values-in-Some-entry.ensures c.clause.ensures c.in-Calm.ensures) m.2)

pub chain-preserved-in-Forces : goal.chain-preserved-in-Forces
chain-preserved-in-Forces c t =
    let cs = (stood_of c.args.store.now).held in
    let m = c.chain.invariant t in
    let b = assigned c.chain.board in
    let x = c.in-Some-entry.entry in
    let k = linked (goal.at.chain-preserved-in-Forces c).In-Some-entry in
    let l = c.in-Forces.lit in
    let e = to_z-of_z w32 l (let f : SFits w32 l = search rules in f) in
    let w : Within (length b) cs = subst (λ z. Within z cs) (sym m.0.back.long) t.within in
    let p = step cs b (trailed c.chain.board) x.owner l c.variable.result c.sign.result w (owner_below _ (chains c.args.index.now) t.indexed.owned _ x k) (judged (λ a k. (live a k ≡ l ∷ []) × (value a l ≡ None)) c.values-in-Some-entry.ensures c.clause.ensures c.in-Forces.ensures) (c.variable.ensures ∙ ap variable e) (c.sign.ensures ∙ ap sign e) _ _ c.put.ensures in (
      p.come _ _ m.0,
      omega (arith, p.longer, m.1),
      awake_visited _ _ _ _ _ _ x k p.calm (λ i h. p.kept (get_or cs i []) _ _ m.1 (m.2 i h)),
    )

pub returns-in-Dead : goal.returns-in-Dead
returns-in-Dead c rd =
    let t = turned (goal.at.returns-in-Dead c).After-against-link rd in
    let all = come_trans (c.queue.invariant rd).0 (c.chain.invariant t).0 in
    let held = owner_below _ (chains c.args.index.now) t.indexed.owned _ _ (linked (goal.at.returns-in-Dead c).In-Some-entry) in
    record { run = all.run; back = all.back; end = record { clause = c.in-Some-entry.entry.owner; held = held; dead = judged (λ a k. live a k ≡ []) c.values-in-Some-entry.ensures c.clause.ensures c.in-Dead.ensures } }

past : (xs : List ℕ) (k : ℕ) → slice_get xs k ≡ None → length xs ≤ k
past xs k e = elim (slice_get_cases xs k).1 [ inl h ↦ (let z : Some h.0 ≡ None = sym h.2 ∙ e in cc) | inr h ↦ h.0 ]

pub returns : goal.returns
returns c rd =
    let q = c.queue.invariant rd in
    record { run = q.0.run; back = q.0.back; end = awake_quiet _ (chains c.args.index.now).entries _ _ _ (past _ _ (sym c.nth_set.ensures ∙ c.in_default.is)) q.2 }

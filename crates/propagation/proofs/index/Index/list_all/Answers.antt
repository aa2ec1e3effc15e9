use Rattle.std.proofs.Common.{◌≡◌, ℕ, ◌+◌, ◌<◌, List, [], length, get_or, take, ℤ, sym, refl, ap, ◌∙◌, subst, arith}
use Rattle.std.proofs.lemmas.Iterator.Consumers.{YieldsList-at, YieldsList-from_enumerate, YieldsList-from_first, YieldsList-turn, YieldsList-end}
use Rattle.std.proofs.lemmas.List.{take_all, get_or_default, length_push}
use Rattle.std.proofs.lemmas.List.FromFn.{length-enumerate_from, get_or-enumerate_from}
use Rattle.clause_store.specs.Made.{stood_of}
use Rattle.propagation.proofs.Chained.{all_gains, all_more, all_long, all_within_take, size-take, none_good, all_indexes}
use Rattle.propagation.specs.Chains.{Chains, Good, Indexes, added_clause, added_all, no_chains}
use Rattle.propagation.specs.Made.{chains}
use Rattle.propagation.proofs.index.Index.list_all.Goals.{In-Some}
use Rattle.propagation.proofs.index.Index.list_all.Goals as goal

-- the clause that is listed
listed : (c : In-Some) → (length c.loop-i.yielded < length (stood_of c.args.store.now).held) × (c.in-Some.i ≡ length c.loop-i.yielded) × (c.in-Some.clause.now ≡ get_or (stood_of c.args.store.now).held (length c.loop-i.yielded) [])
listed c =
    let cs = (stood_of c.args.store.now).held in
    let k = length c.loop-i.yielded in
    let x : ℕ × List ℤ = (c.in-Some.i, c.in-Some.clause.now) in
    let t = YieldsList-turn (YieldsList-at c.into_iter-i-iterator.ensures.into_iter_gives (YieldsList-from_enumerate (YieldsList-from_first (λ y. y.now) (λ left. left) cs (c.enumerate-i-items.ensures.source ∙ c.clauses.ensures.value)) c.enumerate-i-items.ensures.count)) c.loop-i.yielded _ c.loop-i.yielded_by _ _ (c.in-Some.i, c.in-Some.clause) c.in-Some.is c.next.ensures.steps in
    let l : k < length cs = omega (arith, t.0, length-enumerate_from 0 cs) in
    let e : x ≡ (0 + k, get_or cs k c.in-Some.clause.now) = t.1 ∙ get_or-enumerate_from 0 cs k x l in
    (l, omega (arith, ap (λ z. z.0) e), ap (λ z. z.1) e ∙ get_or_default cs k c.in-Some.clause.now [] l)

pub loop-i-init : goal.loop-i-init
unfolding added_all
loop-i-init c = (c.clear.ensures.value, refl)

pub add_clause-requires : goal.add_clause-requires
add_clause-requires c =
    let cs = (stood_of c.args.store.now).held in
    let p = c.args.n + 1 in
    let k = length c.loop-i.yielded in
    let h = c.loop-i.invariant.0 in
    let t = listed (goal.at.add_clause-requires c).In-Some in
    let g : Good p (chains c.loop-i.self) = subst (Good p) (sym h) (all_gains p (no_chains p) (take k cs) 0 (none_good p) (all_within_take p cs k c.requires.within)).good in
    let long = ap (λ z. length z.entries) h ∙ all_long (no_chains p) (take k cs) 0 in
    record {
      within = rw (g.long, t.2) (c.requires.within k t.0);
      room = omega (arith, size-take cs k t.0, ap length t.2, c.requires.room, c.loop-i.invariant.1, c.clear.ensures.most);
      few = omega (arith, size-take cs k t.0, ap length t.2, c.requires.held);
    }

pub loop-i-preserved : goal.loop-i-preserved
loop-i-preserved c =
    let cs = (stood_of c.args.store.now).held in
    let t = listed (goal.at.loop-i-preserved c).In-Some in (
      c.add_clause.ensures.value ∙ ap (λ y. added_clause y c.in-Some.clause.now c.in-Some.i) c.loop-i.invariant.0 ∙ all_more (no_chains (c.args.n + 1)) cs _ (length_push c.loop-i.yielded (c.in-Some.i, c.in-Some.clause)) t.0 t.1 t.2,
      c.add_clause.ensures.most ∙ c.loop-i.invariant.1,
    )

pub returns : goal.returns
returns c =
    let cs = (stood_of c.args.store.now).held in
    let p = c.args.n + 1 in
    let e = YieldsList-end (YieldsList-at c.into_iter-i-iterator.ensures.into_iter_gives (YieldsList-from_enumerate (YieldsList-from_first (λ y. y.now) (λ left. left) cs (c.enumerate-i-items.ensures.source ∙ c.clauses.ensures.value)) c.enumerate-i-items.ensures.count)) c.loop-i.yielded _ c.loop-i.yielded_by _ _ c.in-None.is c.next.ensures.steps in
    let a : chains c.loop-i.self ≡ added_all (no_chains p) cs 0 = c.loop-i.invariant.0 ∙ ap (λ y. added_all (no_chains p) y 0) (take_all (length c.loop-i.yielded) cs (omega (arith, e.1, length-enumerate_from 0 cs))) in
    record { value = subst (λ (z : Chains). Indexes cs p z) (sym a) (all_indexes p cs c.requires.within); most = c.loop-i.invariant.1 ∙ c.clear.ensures.most }

use Rattle.std.proofs.Common.{◌≡◌, length, set, vec_items, sym, ap, subst, arith, w32, SFits, rules}
use Rattle.std.proofs.lemmas.Int.{to_z-of_z}
use Rattle.std.proofs.lemmas.List.{get_or_read}
use Rattle.holder.specs.Widest.{variable}
use Rattle.propagation.specs.Chains.{Chains, no_heads, added, Falling, Starting}
use Rattle.propagation.specs.Made.{chains}
use Rattle.propagation.proofs.Chained.{added_is, added_falling, added_starts}
use Rattle.propagation.proofs.index.Index.add.Goals.{After-push_reserved}
use Rattle.propagation.proofs.index.Index.add.Goals as goal

-- the two lists after it
made : (c : After-push_reserved) → ◌≡◌ {A = Chains} (record { heads = set (vec_items c.args.self.now.heads) c.variable.result c.begin-next.new.self; entries = vec_items c.push_reserved.new.self }) (added (chains c.args.self.now) c.args.lit c.args.owner)
made c =
    let s = c.args.self.now in
    let e = to_z-of_z w32 c.args.lit (let f : SFits w32 c.args.lit = search rules in f) in
    let old = get_or_read (vec_items s.heads) c.variable.result c.index_mut.result.now (omega (arith, c.requires.listed, c.variable.ensures, ap variable e)) c.index_mut.ensures.value no_heads in
    added_is (chains s) c.args.owner e c.variable.ensures old (omega (arith, c.len-entry.ensures, s.entries.ok.0)) c.begin-next.ensures.after c.begin-next.ensures.before c.push_reserved.ensures.items

pub returns-clause-value : goal.returns-clause-value
returns-clause-value c = made (goal.at.returns-clause-value c).After-push_reserved

pub invariant_of-self-clause-falling : goal.invariant_of-self-clause-falling
invariant_of-self-clause-falling c =
    let s = c.args.self.now in
    subst (λ (z : Chains). Falling z.entries) (sym (made (goal.at.invariant_of-self-clause-falling c).After-push_reserved)) (added_falling (chains s) c.args.lit c.args.owner s.starts s.falling)

pub invariant_of-self-clause-starts : goal.invariant_of-self-clause-starts
invariant_of-self-clause-starts c =
    let s = c.args.self.now in
    subst (λ (z : Chains). Starting z.heads (length z.entries)) (sym (made (goal.at.invariant_of-self-clause-starts c).After-push_reserved)) (added_starts (chains s) c.args.lit c.args.owner s.starts)

use Rattle.std.proofs.Common.{◌≡◌, length, get_or, take, ℤ, pos, vec_items, sym, refl, ap, ◌∙◌, arith, length-take, w32, SFits, rules}
use Rattle.std.proofs.lemmas.Int.{to_z-of_z}
use Rattle.std.proofs.lemmas.List.{take_more}
use Rattle.holder.specs.Widest.{variable}
use Rattle.propagation.specs.Chains.{added, added_clause}
use Rattle.propagation.specs.Made.{chains}
use Rattle.propagation.proofs.Chained.{clause_heads, clause_push, clause_long, within_at}
use Rattle.propagation.proofs.index.Index.add_clause.Goals as goal

pub loop-lit-init : goal.loop-lit-init
unfolding added_clause
loop-lit-init c = (refl, refl)

pub add-requires : goal.add-requires
add-requires c =
    let s = c.args.self.now in
    let xs = c.args.clause.now in
    let k = c.loop-lit.lit-index in
    let x = get_or xs k (pos 0) in
    let f : SFits w32 x = search rules in
    let w = within_at (length (vec_items s.heads)) xs c.requires.within k c.loop-lit-test.true in
    let e : variable x ≡ variable (mir.Val.to_z w32 (mir.Val.of_z w32 x)) = sym (ap variable (to_z-of_z w32 x f)) in
    let h = c.loop-lit.invariant.0 in
    let m = c.loop-lit.invariant.1 in
    let t = length-take k xs in
    record {
      listed = omega (arith, ap (λ z. length z.heads) h, clause_heads (chains s) (take k xs) c.args.i);
      room = omega (arith, ap (λ z. length z.entries) h, clause_long (chains s) (take k xs) c.args.i, c.requires.room, c.loop-lit-test.true);
      few = omega (arith, ap (λ z. length z.entries) h, clause_long (chains s) (take k xs) c.args.i, c.requires.few, c.loop-lit-test.true);
    }

pub loop-lit-preserved : goal.loop-lit-preserved
loop-lit-preserved c =
    let s = c.args.self.now in
    let xs = c.args.clause.now in
    let k = c.loop-lit.lit-index in
    let i = c.args.i in
    let x = get_or xs k (pos 0) in
    let f : SFits w32 x = search rules in (
      c.add.ensures.value ∙ ap (λ (z : ℤ). added (chains c.loop-lit.self) z i) (to_z-of_z w32 x f) ∙ ap (λ z. added z x i) c.loop-lit.invariant.0 ∙ sym (clause_push (chains s) (take k xs) x i) ∙ ap (λ z. added_clause (chains s) z i) (sym (take_more xs k (pos 0) c.loop-lit-test.true)),
      c.add.ensures.most ∙ c.loop-lit.invariant.1,
    )

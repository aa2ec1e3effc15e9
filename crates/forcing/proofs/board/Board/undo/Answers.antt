use Rattle.std.proofs.Common.{◌-◌, ◌<◌, ◌≤◌, length, get_or, take, drop, set, sym, ap, ◌∙◌, arith}
use Rattle.std.proofs.lemmas.List.{take-take, take_all, drop_all}
use Rattle.forcing.specs.Boards.{assigned, trailed, unset}
use Rattle.forcing.proofs.Backs.{unset_last, unset_none}
use Rattle.forcing.proofs.board.Board.undo.Goals as goal

pub loop-self-preserved : goal.loop-self-preserved
loop-self-preserved c =
    let s = c.loop-self.self in
    let ts = trailed s in
    let m = c.args.mark in
    let l : m < length ts = omega (arith, c.mark.ensures) in
    let e = c.reopen.ensures.trail in
    let d = c.reopen.ensures.values in (
      ap (take m) e ∙ take-take m (length ts - 1) ts (omega arith) ∙ c.loop-self.invariant.0,
      ap (λ z. unset z (drop m (trailed c.reopen.new.self))) d ∙ ap (λ z. unset (set (assigned s) (get_or ts (length ts - 1) 0) _) (drop m z)) e ∙ unset_last (assigned s) ts m l ∙ c.loop-self.invariant.1,
    )

pub returns : goal.returns
returns c =
    let ts = trailed c.loop-self.self in
    let m = c.args.mark in
    let l : length ts ≤ m = omega (arith, c.mark.ensures) in
    record {
      values = sym (ap (unset (assigned c.loop-self.self)) (drop_all m ts l) ∙ unset_none (assigned c.loop-self.self)) ∙ c.loop-self.invariant.1;
      trail = sym (take_all m ts l) ∙ c.loop-self.invariant.0;
    }

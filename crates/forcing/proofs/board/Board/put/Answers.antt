use Rattle.std.proofs.Common.{vec_items, sym, ap, ◌∙◌, arith}
use Rattle.forcing.specs.Boards.{settable}
use Rattle.forcing.proofs.Puts.{put_fewer}
use Rattle.forcing.proofs.board.Board.put.Goals as goal

pub push_reserved-requires : goal.push_reserved-requires
push_reserved-requires c =
    let s = c.args.self.now in
    let e = put_fewer (vec_items s.values) c.args.v c.args.value (ap (λ z. settable z c.args.v c.args.value) (sym c.deref.ensures.value) ∙ sym c.if-settable.ensures) in
    omega (arith, s.few, s.trail_room)

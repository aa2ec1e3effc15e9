use Rattle.std.proofs.Common.{ap, ◌∙◌}
use Rattle.std.proofs.lemmas.Option.{unwrap_or-slice_get}
use Rattle.std.specs.Option.{unwrap_or}
use Rattle.forcing.specs.Boards.{trailed}
use Rattle.forcing.proofs.board.Board.set_at.Goals as goal

pub returns : goal.returns
returns c = c.unwrap_or.ensures ∙ ap (λ o. unwrap_or o 0) c.nth_set.ensures ∙ unwrap_or-slice_get (trailed c.args.self.now) c.args.k 0

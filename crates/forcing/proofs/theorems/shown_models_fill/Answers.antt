use Rattle.forcing.proofs.Shows.{shown_fills}
use Rattle.forcing.proofs.theorems.shown_models_fill.Goals as goal

pub returns : goal.returns
returns c = λ n cs a b b' listed room s m. shown_fills n a b b' listed room s cs m

use Rattle.std.proofs.Common.{◌+◌, arith}
use Rattle.clause_store.specs.Made.{stood_of}
use Rattle.trials.specs.Exist.{within_all}
use Rattle.propagation.proofs.index.Index.build.Goals as goal

pub list_all-requires : goal.list_all-requires
list_all-requires c = record {
  few = omega arith;
  within = within_all (stood_of c.args.store.now).held (c.args.n + 1) (omega (arith, c.widest.ensures));
  room = omega (arith, c.size.ensures.value);
  held = omega (arith, c.size.ensures.value, c.size.ensures.few);
}

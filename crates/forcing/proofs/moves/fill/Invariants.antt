use Rattle.std.proofs.Common.{◌≡◌, replicate, vec_items, vec_len, vec_capacity}
use Rattle.forcing.proofs.moves.fill.Given as goal

abbrev pub invariant-loop : goal.invariant-loop
invariant-loop g l = record {
  items : vec_items l.list ≡ replicate l.counter l.item;
  len : vec_len l.list ≡ l.counter;
  capacity : vec_capacity l.list ≡ vec_capacity l.initial.list;
}

use Rattle.sim_world.proofs.WhereLaws.{learns, swept, moved, placed}
use Rattle.sim_world.proofs.publication_laws.items_go_their_way.Goals as goal

pub returns : goal.returns
returns c = record {
  learns = learns;
  swept = swept;
  moved = moved;
  placed = placed;
}

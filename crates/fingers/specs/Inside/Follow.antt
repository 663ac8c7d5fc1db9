-- The relation "before" of the chosen labels that are followed, and their fingers.
use Rattle.fingers.specs.declared.Following.{Following}
use Rattle.fingers.specs.Inside.Graph.{Graph}
use Rattle.fingers.specs.Inside.Spots.{graph_of}

abbrev pub graph : Following → Graph
graph g = graph_of g.choice.rows.now g.reads.now g.choice.chosen.now g.choice.n

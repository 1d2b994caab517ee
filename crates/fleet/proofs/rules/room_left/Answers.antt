use Rattle.fleet.proofs.TellsLaws as tl
use Rattle.fleet.proofs.rules.room_left.Goals as goal

pub returns-then-depth-eq0 : goal.returns-then-depth-eq0
returns-then-depth-eq0 c = let a = c.args in tl.room_of_trees a.reader.nodes a.reader.trees a.reader.in_tree a.depth c.if-reader-ge-NODES.false c.if-depth-eq0.true

pub returns : goal.returns
returns c = let a = c.args in tl.room_in_tree a.reader.nodes a.reader.trees a.reader.in_tree a.depth c.if-reader-ge-NODES.false c.if-depth-eq0.false

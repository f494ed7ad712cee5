-- `chunks::chunk_matrix` meets its contract: nothing of a block without cells, else the parts and then the equations without cells. Rests on `split_all`.
-- Assumes nothing.
use Rattle.chunks.proofs.InSet.{split_nothing, split_parts, split_bare, split_all}
use Rattle.chunks.proofs.chunk_matrix.Goals as goal

pub returns-then-bounds : goal.returns-then-bounds
returns-then-bounds c = let set = c.args.set.now in split_nothing set.cells set.slots set.rests c.args.bounds c.args.out c.if-bounds.true c.requires.room.held

pub put_parts-requires-clause-room : goal.put_parts-requires-clause-room
put_parts-requires-clause-room c = let set = c.args.set.now in split_parts set.cells set.slots set.rests c.args.bounds c.requires.stands.1 c.if-bounds.false c.args.out c.requires.room

pub put_alone-requires-clause-room : goal.put_alone-requires-clause-room
put_alone-requires-clause-room c = let set = c.args.set.now in split_bare set.cells set.slots set.rests c.args.bounds c.requires.stands.1 c.if-bounds.false c.args.out c.requires.room _ c.put_parts.ensures

pub returns : goal.returns
returns c = let set = c.args.set.now in split_all set.cells set.slots set.rests c.args.bounds c.requires.stands.1 c.if-bounds.false c.args.out c.requires.room _ c.put_parts.ensures _ c.put_alone.ensures

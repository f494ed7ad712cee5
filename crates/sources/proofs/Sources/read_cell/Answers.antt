-- `sources::read_cell` meets its contract: a cell that is no source is passed, and any other is one more. Rests on the laws of sources. Assumes nothing.
use Rattle.sources.proofs.SourceLaws.{read_pass, read_source, not_open, none_closed, is_source_lem}
use Rattle.sources.proofs.Sources.read_cell.Goals as goal
use Rattle.sources.proofs.Sources.read_cell.Goals.{else-position-c-le8-via-then-position-c-le8+else-shown_beside, else-position-c-le8-via-else-position-c-le8}

pub returns-then-shown_beside : goal.returns-then-shown_beside
returns-then-shown_beside c =
    let is = c.cell_number-c.ensures.0 in
    let source = is_source_lem _ c.requires.board c.requires.on is c.shown_beside.ensures c.if-position-c-le8.true c.if-shown_beside.true in
    rw c.push.ensures (read_source _ c.requires.board c.requires.on is c.neighbours_showing-closed.ensures c.requires.read source c.put_slots.ensures)

pub returns-else-position-c-le8 : goal.returns-else-position-c-le8
returns-else-position-c-le8 c =
    let is = c.cell_number-c.ensures.0 in
    elim c.else-position-c-le8.branch [
      | else-position-c-le8-via-then-position-c-le8+else-shown_beside w ↦ read_pass c.requires.read (none_closed _ c.requires.board c.requires.on is w.shown_beside.ensures w.if-shown_beside.false)
      | else-position-c-le8-via-else-position-c-le8 w ↦ read_pass c.requires.read (not_open _ c.requires.board c.requires.on is w.if-position-c-le8.false)
    ]

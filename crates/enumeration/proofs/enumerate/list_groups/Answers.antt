-- `enumeration::enumerate::list_groups` meets its contract. The loop's invariant: the cells of the groups from g on that are not marked, stored behind those already
-- listed, give what those of all groups give. Rests on UnmarkedGroups. Assumes nothing.
use Rattle.lists.proofs.Storing.{storing_start}
use Rattle.enumeration.proofs.UnmarkedGroups.{group_room, group_stored, group_passed, groups_stored}
use Rattle.enumeration.proofs.enumerate.list_groups.Goals as goal
use Rattle.enumeration.proofs.enumerate.list_groups.Goals.{else-marks-g-ne1, then-marks-g-ne1}

pub loop-g-init : goal.loop-g-init
loop-g-init c = storing_start c.requires.groups_bound.1

pub list_group-requires-clause-room : goal.list_group-requires-clause-room
list_group-requires-clause-room c =
    group_room c.args.grouped.now.group_of c.args.marks.now c.args.cells.now c.args.grouped.now.groups c.loop-g.invariant c.loop-g-test.true c.if-marks-g-ne1.true 1024 c.requires.room

pub loop-g-preserved : goal.loop-g-preserved
loop-g-preserved c =
    let loop = c.loop-g in
    let test = c.loop-g-test.true in
    elim c.if-marks-g-ne1.branch [
      | then-marks-g-ne1 w ↦ rw w.list-is
          (group_stored c.args.grouped.now.group_of c.args.marks.now c.args.cells.now c.args.grouped.now.groups loop.invariant test w.if-marks-g-ne1.true
          _ w.list_group.ensures.cells _ w.list_group.ensures.count)
      | else-marks-g-ne1 w ↦ rw w.list-is (group_passed c.args.grouped.now.group_of c.args.marks.now c.args.cells.now c.args.grouped.now.groups loop.invariant test w.if-marks-g-ne1.false)
    ]

pub returns : goal.returns
returns c =
    let both = groups_stored c.args.grouped.now.group_of c.args.marks.now c.args.cells.now c.args.grouped.now.groups c.loop-g.invariant c.loop-g-test.false in
    record { count = both.0; cells = both.1 }

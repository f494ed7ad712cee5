-- `enumeration::asking::Shown::ask_group` meets its contract: each of the two questions is asked or known, which tells what the marks show of the group. Rests on the
-- laws of questions. Assumes nothing.
use Prim.Native.Nat.{ℕ, ◌≤◌}
use mathlib.Core.Path.{◌≡◌, refl, ◌∙◌}
use native.Mathlib.Omega.{arith}
use lib.ListN.{get_or}
use Rattle.search.specs.Searching.{tree_of_values}
use Rattle.search.proofs.OrderedGroups.{group_at, group_small}
use Rattle.enumeration.specs.declared.asking.Shown.{Shown}
use Rattle.enumeration.proofs.NotedMarks.{stays_twice}
use Rattle.enumeration.proofs.SearchAnswers.{Question, question_asked, question_known, question_stay, group_told}
use Rattle.enumeration.proofs.asking.Shown.ask_group.Goals as goal
use Rattle.enumeration.proofs.asking.Shown.ask_group.Goals.{After-wide-g, Joined-self-g-ne1, Start, else-self-g-ne1, then-self-g-ne1}

-- the group at the place has at most eight cells
small : (c : After-wide-g) → get_or c.args.grouped.now.sizes c.wide-g.result 0 ≤ 8
small c = group_small (group_at c.args.settled.now.begun.count c.wide-g.result c.requires.ordered c.requires.at_lt_groups.0 c.wide-g.ensures)

pub ask-requires-clause-at_lt_groups : goal.ask-requires-clause-at_lt_groups
ask-requires-clause-at_lt_groups c = (c.requires.at_lt_groups.0, small (goal.at.ask-requires-clause-at_lt_groups c).After-wide-g)

pub ask-requires-then-self-g-ne1-2-clause-at_lt_groups : goal.ask-requires-then-self-g-ne1-2-clause-at_lt_groups
ask-requires-then-self-g-ne1-2-clause-at_lt_groups c =
    let few = small (goal.at.ask-requires-then-self-g-ne1-2-clause-at_lt_groups c).After-wide-g in
    (c.requires.at_lt_groups.0, omega (arith, few))

-- the group
abbrev group : Start → ℕ
group s = get_or s.args.order.now s.args.settled.now.begun.count 0

-- a question about it, by the marks before and after
abbrev Asked : Start → ℕ → ℕ → ℕ → Shown → Shown → Type 0
Asked s low high mark before after =
    Question s.args.grouped.now s.args.settled.now.begun.count s.args.order.now s.args.settled.now.values
    (tree_of_values s.args.grouped.now s.args.order.now s.args.settled.now.begun.count low high s.args.unmet.now) mark before after

-- the first question is asked or known
first : (c : Joined-self-g-ne1)
    → (c.if-self-g-ne1.unmet ≡ c.args.unmet.now)
    × Asked (goal.at.Joined-self-g-ne1 c).Start 1
    (get_or c.args.grouped.now.sizes (group (goal.at.Joined-self-g-ne1 c).Start) 0) (get_or c.args.self.now.mined (group (goal.at.Joined-self-g-ne1 c).Start) 0)
    c.args.self.now c.if-self-g-ne1.self
first c =
    let is = c.wide-g.ensures in
    elim c.if-self-g-ne1.branch [
      | then-self-g-ne1 w ↦ (w.unmet-is ∙ w.ask.ensures.unmet_unchanged, rw w.self-is (question_asked (rw is at w.if-self-g-ne1.true) (rw is at w.ask.ensures.answered)))
      | else-self-g-ne1 w ↦ (w.unmet-is, question_known (rw is at w.if-self-g-ne1.false) w.self-is)
    ]

pub returns-then-self-g-ne1-2 : goal.returns-then-self-g-ne1-2
returns-then-self-g-ne1-2 c =
    let is = c.wide-g.ensures in
    let one = first (goal.at.returns-then-self-g-ne1-2 c).Joined-self-g-ne1 in
    let ask = c.ask-then-self-g-ne1-2 in
    let two = question_asked (rw is at c.if-self-g-ne1-2.true) (rw (is, one.0) at ask.ensures.answered) in record {
      unmet_unchanged = ask.ensures.unmet_unchanged ∙ one.0;
      stays = stays_twice (question_stay one.1) (question_stay two);
      shown_only = λ b over shown. group_told c.args.order.now c.args.settled.now.begun.count over c.requires.ordered c.requires.at_lt_groups.0 c.requires.at_lt_groups.1 one.1 two shown;
    }

pub returns-else-self-g-ne1-2 : goal.returns-else-self-g-ne1-2
returns-else-self-g-ne1-2 c =
    let is = c.wide-g.ensures in
    let one = first (goal.at.returns-else-self-g-ne1-2 c).Joined-self-g-ne1 in record {
      unmet_unchanged = one.0;
      stays = question_stay one.1;
      shown_only = λ b over shown. group_told c.args.order.now c.args.settled.now.begun.count over c.requires.ordered c.requires.at_lt_groups.0 c.requires.at_lt_groups.1 one.1
          (question_known (rw is at c.if-self-g-ne1-2.false) refl) shown;
    }

use Rattle.cp_simulate.proofs.Heads.{never_refused, reads_head}
use Rattle.cp_simulate.proofs.fact.head_of_rule.Goals as goal

pub unreachable-requires : goal.unreachable-requires
unreachable-requires c = never_refused c.args.cells.now c.in_ok-head.head c.from_cells.result c.in-Err.field-0
    (record { rule = c.requires.rule; terms = c.requires.term; numbered = c.requires.numbered; head_is = c.in_ok-head.ensures; read_is = c.from_cells.ensures }) c.in-Err.is

pub returns : goal.returns
returns c = reads_head c.args.cells.now c.in_ok-head.head c.from_cells.result c.in-Ok.head
    (record { rule = c.requires.rule; terms = c.requires.term; numbered = c.requires.numbered; head_is = c.in_ok-head.ensures; read_is = c.from_cells.ensures }) c.in-Ok.is

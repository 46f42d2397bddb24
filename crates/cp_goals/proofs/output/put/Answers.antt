use Rattle.std.proofs.Common.{◌≡◌, true, nat_lt, length, sym, ◌∙◌, ap, rules}
use Rattle.cp_code.specs.Machine as machine
use Rattle.cp_code.specs.Requests.{full_name}
use Rattle.cp_run.specs.Shown.{moved}
use Rattle.cp_goals.proofs.output.put.Goals as goal

pub returns-then-len-gt-PIECE_LIMIT-clause-moved : goal.returns-then-len-gt-PIECE_LIMIT-clause-moved
returns-then-len-gt-PIECE_LIMIT-clause-moved c code =
    let yes : nat_lt 65535 (length c.args.bytes) ≡ true = search rules in
    c.in_ok-too_large.ensures.moved code c.args.level
    ∙ sym (ap (λ b. moved code c.args.run.now c.args.rest c.args.level (λ rest s next level. machine.writes_if b c.args.bytes (full_name c.args.context.now) rest s next level)) yes)

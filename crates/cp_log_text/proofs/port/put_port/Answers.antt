use Rattle.std.proofs.Common.{map}
use Rattle.cp_log_text.specs.Line.{word}
use Rattle.cp_log_text.specs.Port.{write_line}
use Rattle.cp_log_text.proofs.Texts.{head_word}
use Rattle.cp_log_text.proofs.port.put_port.Goals as goal

pub returns : goal.returns
returns c =
    head_word c.args.log.now _ _ _ (word "port") (map write_line c.args.port.now) c.in_ok-put_word.ensures (cc) c.in_ok-put_writes.ensures

use Rattle.std.proofs.Common.{rules, ◌≡◌, ◌≤◌, length, arith, ap}
use Rattle.std.specs.Str.{chars, encode_utf8_all}
use Rattle.std.proofs.lemmas.Str.{chars_from_encodes, length-le-encodes, encodes-chars}
use Rattle.cp_builtin.proofs.name_text.characters.Goals as goal

is_count : goal.returns-clause-value
is_count c = search (rules, chars_from_encodes)

pub returns-clause-value : goal.returns-clause-value
returns-clause-value c = is_count c

pub returns-clause-few : goal.returns-clause-few
returns-clause-few c =
    let text = c.args.name.now in
    let few = length-le-encodes (chars text) in
    let same : length (encode_utf8_all (chars text)) ≡ length text = ap length (encodes-chars text c.bytes-bytes.ensures.utf8) in
    let short : length text ≤ 1024 = c.bytes-bytes.ensures.len in
    let count = is_count c in
    omega arith

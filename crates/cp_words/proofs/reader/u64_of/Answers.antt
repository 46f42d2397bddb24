use Rattle.std.proofs.Common.{◌∙◌, is_some, arith, ap, sym}
use Rattle.std.specs.Str.Parse.{ParsesUnsigned, ExplainsUnsignedError, HasUnsignedDigitsIfOk}
use Rattle.clap.specs.Words.{found_of, rows_of, one_of}
use Rattle.clap.proofs.WalkLemmas.{one_text-rows}
use Rattle.cp_words.proofs.Numerals.{reads}
use Rattle.cp_words.proofs.reader.u64_of.Goals as goal

pub unwrap-requires : goal.unwrap-requires
unwrap-requires c =
    let found = found_of c.args.matches.now in
    let read = reads _ (λ bs r. ParsesUnsigned 64 10 bs r × ExplainsUnsignedError 10 bs r × HasUnsignedDigitsIfOk bs r) 64 18446744073709551615
    (one_of c.args.id.now (rows_of found)) c.get_one.result
    (λ t e. c.get_one.ensures.value t (one_text-rows found c.args.id.now ∙ e)) (λ u x g. g.0) (omega arith) c.requires in
    ap is_some read.1

pub returns : goal.returns
returns c =
    let found = found_of c.args.matches.now in
    let read = reads _ (λ bs r. ParsesUnsigned 64 10 bs r × ExplainsUnsignedError 10 bs r × HasUnsignedDigitsIfOk bs r) 64 18446744073709551615
    (one_of c.args.id.now (rows_of found)) c.get_one.result
    (λ t e. c.get_one.ensures.value t (one_text-rows found c.args.id.now ∙ e)) (λ u x g. g.0) (omega arith) c.requires in
    read.2 ∙ (sym read.1 ∙ c.unwrap.ensures)

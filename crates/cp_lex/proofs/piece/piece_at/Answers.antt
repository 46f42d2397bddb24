use Rattle.std.proofs.Common.{◌≡◌, subst}
use Rattle.std.specs.Prelude.{IfOk}
use Rattle.cp_lex.specs.Lexical.{piece_from}
use Rattle.cp_lex.proofs.piece.piece_at.Goals as goal

pub returns-in-BlockComment : goal.returns-in-BlockComment
returns-in-BlockComment c = subst (λ s. c.block_comment.result ≡ piece_from s c.args.before c.args.text.now) c.in-BlockComment.ensures (c.block_comment.ensures c.args.before)

pub returns-in-SmallLetter : goal.returns-in-SmallLetter
returns-in-SmallLetter c = subst (λ s. IfOk c.name_word.result (λ p. p ≡ piece_from s c.args.before c.args.text.now)) c.in-SmallLetter.ensures (c.name_word.ensures c.args.before)

pub returns-in-CapitalLetter : goal.returns-in-CapitalLetter
returns-in-CapitalLetter c = subst (λ s. IfOk c.variable.result (λ p. p ≡ piece_from s c.args.before c.args.text.now)) c.in-CapitalLetter.ensures (c.variable.ensures c.args.before)

pub returns-in-Symbols : goal.returns-in-Symbols
returns-in-Symbols c = subst (λ s. IfOk c.symbol_word.result (λ p. p ≡ piece_from s c.args.before c.args.text.now)) c.in-Symbols.ensures (c.symbol_word.ensures c.args.before)

pub returns-in-Solo : goal.returns-in-Solo
returns-in-Solo c = subst (λ s. IfOk c.solo_word.result (λ p. p ≡ piece_from s c.args.before c.args.text.now)) c.in-Solo.ensures (c.solo_word.ensures c.args.before)

pub returns-in-WordQuote : goal.returns-in-WordQuote
returns-in-WordQuote c = subst (λ s. IfOk c.quoted_word.result (λ p. p ≡ piece_from s c.args.before c.args.text.now)) c.in-WordQuote.ensures (c.quoted_word.ensures c.args.before)

pub returns-in-TextQuote : goal.returns-in-TextQuote
returns-in-TextQuote c = subst (λ s. IfOk c.quoted_text.result (λ p. p ≡ piece_from s c.args.before c.args.text.now)) c.in-TextQuote.ensures (c.quoted_text.ensures c.args.before)

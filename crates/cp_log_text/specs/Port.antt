-- The lines of the output port in a log: `w(ENGINE, PIECE, REPLY)` for each write. A piece is an atom of its bytes where it
-- has at most 1,024, as a name does, and else the list of the atoms that it is cut into. Bytes that are no UTF-8, which no goal
-- writes, are the list of their numbers, which is no piece of a log that is read.
use Rattle.std.specs.Prelude.{ℕ, ◌+◌, Bool, nat_le, cond, List, [], ◌∷◌, ◌++◌, map, length, encode_utf8}
use Rattle.std.specs.Char.{len_utf8}
use Rattle.std.specs.Str.{chars, is_utf8}
use Rattle.cp_term.specs.declared.cell.Cell.{Cell}
use Rattle.cp_call.specs.declared.item.PutReply.{PutReply}
use Rattle.cp_call.specs.declared.item.PutReply.TheVariants as put
use Rattle.cp_call.specs.declared.outcome.OutEntry.{OutEntry}
use Rattle.cp_log_text.specs.Line.{functor, word, atom, number, list_parts, term_with}

-- whether a text of so many bytes fits into an atom
abbrev pub fits : ℕ → Bool
fits len = nat_le len 1024

-- characters cut into pieces, where one is begun: each piece takes whole characters as long as they fit
abbrev pub cut_from : List ℕ → List ℕ → List (List ℕ)
cut_from piece [] = piece ∷ []
cut_from piece (c ∷ cs) =
    cond (fits (length piece + len_utf8 c)) (cut_from (piece ++ encode_utf8 c) cs) (piece ∷ cut_from (encode_utf8 c) cs)

abbrev pub cut : List ℕ → List (List ℕ)
cut text = cut_from [] (chars text)

abbrev pub piece_parts : List ℕ → List (List Cell)
piece_parts text = cond (fits (length text)) (atom text ∷ []) (list_parts (map atom (cut text)))

abbrev pub bytes_parts : List ℕ → List (List Cell)
bytes_parts bytes = cond (is_utf8 bytes) (piece_parts bytes) (list_parts (map number bytes))

abbrev pub put_reply : PutReply → List Cell
put_reply put.Wrote = word "wrote"
put_reply put.Failed = word "failed"

abbrev pub write_parts : OutEntry → List (List Cell)
write_parts w = functor "w" 3 ∷ number w.engine ∷ bytes_parts w.bytes ++ put_reply w.reply ∷ []

abbrev pub write_line : OutEntry → List Cell
write_line w = term_with (write_parts w)

abbrev pub port_lines : List OutEntry → List (List Cell)
port_lines port = word "port" ∷ map write_line port

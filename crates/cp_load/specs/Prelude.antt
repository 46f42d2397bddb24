-- The prelude: the predicates that every module sees. It is a text like that of a file.
use Rattle.std.specs.Prelude.{ℕ, List, ◌++◌, codes}
use Rattle.cp_module.specs.Texts.{text_of}
use Rattle.cp_module.specs.Parts.{Part, part}

abbrev pub text : List ℕ
text =
    codes ":- module(prelude, [append/3, member/2, length/2, between/3, once/1]).\n"
    ++ codes "append([], L, L).\nappend([H|T], L, [H|R]) :- append(T, L, R).\n"
    ++ codes "member(X, [X|_]).\nmember(X, [_|T]) :- member(X, T).\n"
    ++ codes "length(L, N) :- len(L, 0, N).\nlen([], N, N).\nlen([_|T], A, N) :- B is A + 1, len(T, B, N).\n"
    ++ codes "between(L, H, L) :- L =< H.\nbetween(L, H, X) :- L < H, M is L + 1, between(M, H, X).\n"
    ++ codes ":- meta_predicate once(goal).\nonce(G) :- call(G), !.\n"

abbrev pub prelude : Part
prelude = part (codes "prelude.pl") (text_of text)

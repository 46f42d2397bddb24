-- The program that is generated: four engines take the items that a fifth one produces, and tell how many and their sum.
use Rattle.std.specs.Prelude.{ℕ, List, ◌++◌, codes, decimal}

-- the text up to the number of items
abbrev pub before : List ℕ
before =
    codes ":- module(load, [main/0], [concurrency]).\n"
    ++ codes ":- concurrent item/1.\n"
    ++ codes ":- concurrent got/2.\n"
    ++ codes "main :-\n"
    ++ codes "    eng_call(produce(1), create, create, P),\n"
    ++ codes "    eng_call(work(0, 0), create, create, A),\n"
    ++ codes "    eng_call(work(0, 0), create, create, B),\n"
    ++ codes "    eng_call(work(0, 0), create, create, C),\n"
    ++ codes "    eng_call(work(0, 0), create, create, D),\n"
    ++ codes "    eng_wait(P), eng_wait(A), eng_wait(B), eng_wait(C), eng_wait(D),\n"
    ++ codes "    close_predicate(got(_, _)),\n"
    ++ codes "    total(0, 0).\n"
    ++ codes "produce(I) :- I > "

-- the text between its two places
abbrev pub between : List ℕ
between =
    codes ", !, close_predicate(item(_)).\n"
    ++ codes "produce(I) :- assertz_fact(item(I)), J is I + 1, produce(J).\n"
    ++ codes "work(K, S) :- retract_fact(item(X)), !, K1 is K + 1, S1 is S + X, work(K1, S1).\n"
    ++ codes "work(K, S) :- assertz_fact(got(K, S)).\n"
    ++ codes "total(K, S) :- retract_fact(got(A, B)), !, K1 is K + A, S1 is S + B, total(K1, S1).\n"
    ++ codes "total(K, S) :- write("

-- the text after it
abbrev pub after : List ℕ
after = codes "), write(' produced, '), write(K), write(' taken, sum '), write(S), nl.\n"

-- the program that produces so many items
abbrev pub program_of : ℕ → List ℕ
program_of items = before ++ decimal items ++ between ++ decimal items ++ after

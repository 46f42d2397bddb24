-- The clauses of a text, one after another.
use Rattle.std.proofs.Common.{◌≡◌, ℕ, zero, suc, ◌+◌, ◌-◌, ◌<◌, refl, sym, ap, ◌∙◌, Some, None, Option, List, [], ◌∷◌, ◌++◌, append_assoc, append-nil, subst, ◌≤◌, arith}
use Rattle.std.specs.Prelude.{Result, Ok, Err}
use Rattle.cp_term.specs.declared.cell.Cell.{Cell}
use Rattle.cp_lex.specs.declared.token.Token.{Token}
use Rattle.cp_ops.specs.Operators.{Ops}
use Rattle.cp_read.specs.declared.clause.ReadClause.{ReadClause}
use Rattle.cp_read.specs.Clauses.{Clause, Fault, next_clause}
use Rattle.cp_read.specs.declared.bounds.Bounds.{Bounds}
use Rattle.cp_read.specs.declared.error.SyntaxWhy.{SyntaxWhy}
use Rattle.cp_read.specs.declared.error.ReadError.{ReadError}
use Rattle.cp_read.specs.declared.error.ReadError.TheVariants.{Syntax, NoMemory}
use Rattle.cp_read.specs.Reading.{Reading, Answers, AnswersBy, AnswersNext}
use Rattle.cp_module.specs.Texts.{Text, bounds, clauses_from, behind, ended, ops_after, syntax_why}

-- a text with clauses before its own
abbrev pub before : List ReadClause → Text → Text
before clauses text = record text { clauses = clauses ++ text.clauses }

by_next : (most : ℕ) (ops : Ops) → Result (Option Clause) Fault → Text
by_next most ops (Ok None) = ended ops None
by_next most ops (Ok (Some c)) = behind c (clauses_from most (ops_after ops c.cells) c.rest)
by_next most ops (Err f) = ended ops (Some f)

step : (most : ℕ) (ops : Ops) (tokens : List Token) (r : Result (Option Clause) Fault) → next_clause bounds ops tokens ≡ r → clauses_from (suc most) ops tokens ≡ by_next most ops r
unfolding by_next
step most ops tokens r e = go (next_clause bounds ops tokens) ∙ ap (by_next most ops) e
  where
    go : (x : Result (Option Clause) Fault) → (elim x [ Ok found ↦ elim found [ None ↦ ended ops None | Some c ↦ behind c (clauses_from most (ops_after ops c.cells) c.rest) ] | Err f ↦ ended ops (Some f) ]) ≡ by_next most ops x
    go (Ok None) = refl
    go (Ok (Some c)) = refl
    go (Err f) = refl

pub no_more : (most : ℕ) (ops : Ops) (clauses : List ReadClause) (tokens : List Token) → tokens ≡ [] → before clauses (clauses_from most ops tokens) ≡ before clauses (ended ops None)
no_more zero ops clauses tokens e = refl
no_more (suc most) ops clauses tokens e = ap (λ ts. before clauses (clauses_from (suc most) ops ts)) e

pub one_more : (left : ℕ) (most : ℕ) (ops : Ops) (clauses : List ReadClause) (tokens rest : List Token) (c : ReadClause) → left ≡ suc most
    → next_clause bounds ops tokens ≡ Ok (Some (let x : Clause = record { cells = c.term; line = c.line; rest = rest } in x))
    → before clauses (clauses_from left ops tokens) ≡ before (clauses ++ c ∷ []) (clauses_from most (ops_after ops c.term) rest)
unfolding by_next
one_more left most ops clauses tokens rest c l e =
    ap (λ n. before clauses (clauses_from n ops tokens)) l
    ∙ ap (before clauses) (step most ops tokens _ e)
    ∙ ap (λ cs. let t = clauses_from most (ops_after ops c.term) rest in let r : Text = record { clauses = cs; ops = t.ops; fault = t.fault } in r)
    (sym (append_assoc clauses (c ∷ []) ((clauses_from most (ops_after ops c.term) rest).clauses)))

pub at_fault : (left : ℕ) (most : ℕ) (ops : Ops) (clauses : List ReadClause) (tokens : List Token) (f : Fault) → left ≡ suc most
    → next_clause bounds ops tokens ≡ Err f → before clauses (clauses_from left ops tokens) ≡ before clauses (ended ops (Some f))
unfolding by_next
at_fault left most ops clauses tokens f l e = ap (λ n. before clauses (clauses_from n ops tokens)) l ∙ ap (before clauses) (step most ops tokens _ e)

-- ---- what the reader answers, where it has not failed

fresh_answer : (answer : Result (Option ReadClause) ReadError) (old new : Reading) (ops : Ops) → old.failed ≡ None → Answers answer old new ops → AnswersNext answer old new ops
fresh_answer answer old new ops e h = let P : Option ReadError → Type 0 = λ f. AnswersBy f answer old new ops in subst P e h

pub next_fresh : (old new : Reading) (ops : Ops) (c : ReadClause) → old.failed ≡ None → Answers (Ok (Some c)) old new ops → new.failed ≡ None
next_fresh old new ops c e h = ap (λ (r : Reading). r.failed) ((fresh_answer (Ok (Some c)) old new ops e h).1) ∙ e

pub next_bounds : (old new : Reading) (ops : Ops) (c : ReadClause) → old.failed ≡ None → old.bounds ≡ bounds → Answers (Ok (Some c)) old new ops → new.bounds ≡ bounds
next_bounds old new ops c e b h = ap (λ (r : Reading). r.bounds) ((fresh_answer (Ok (Some c)) old new ops e h).1) ∙ b

pub next_whole : (most turn : ℕ) (ops changed : Ops) (clauses more : List ReadClause) (old new : Reading) (c : ReadClause) (whole : Text) → turn < most → old.failed ≡ None → old.bounds ≡ bounds → Answers (Ok (Some c)) old new ops
    → changed ≡ ops_after ops c.term → more ≡ clauses ++ c ∷ [] → before clauses (clauses_from (most - turn) ops old.rest) ≡ whole → before more (clauses_from (most - (turn + 1)) changed new.rest) ≡ whole
next_whole most turn ops changed clauses more old new c whole lt e b h changes pushed w =
    let left : most - turn ≡ suc (most - (turn + 1)) = omega arith in
    let read = (fresh_answer (Ok (Some c)) old new ops e h).0 in
    ap (λ cs. before cs (clauses_from (most - (turn + 1)) changed new.rest)) pushed
    ∙ ap (λ o. before (clauses ++ c ∷ []) (clauses_from (most - (turn + 1)) o new.rest)) changes
    ∙ sym (one_more (most - turn) (most - (turn + 1)) ops clauses old.rest new.rest c left (ap (λ (x : Bounds). next_clause x ops old.rest) (sym b) ∙ read))
    ∙ w

ended_text : (clauses : List ReadClause) (ops : Ops) → before clauses (ended ops None) ≡ (let t : Text = record { clauses = clauses; ops = ops; fault = None } in t)
ended_text clauses ops = ap (λ cs. let t : Text = record { clauses = cs; ops = ops; fault = None } in t) (append-nil clauses)

pub last_whole : (most turn : ℕ) (ops : Ops) (clauses : List ReadClause) (old new : Reading) (whole : Text) → old.failed ≡ None → Answers (Ok None) old new ops
    → before clauses (clauses_from (most - turn) ops old.rest) ≡ whole → (let t : Text = record { clauses = clauses; ops = ops; fault = None } in t) ≡ whole
last_whole most turn ops clauses old new whole e h w =
    sym (ended_text clauses ops) ∙ sym (no_more (most - turn) ops clauses old.rest ((fresh_answer (Ok None) old new ops e h).0)) ∙ w

pub spent_whole : (most turn : ℕ) (ops : Ops) (clauses : List ReadClause) (tokens : List Token) (whole : Text) → most ≤ turn
    → before clauses (clauses_from (most - turn) ops tokens) ≡ whole → (let t : Text = record { clauses = clauses; ops = ops; fault = None } in t) ≡ whole
spent_whole most turn ops clauses tokens whole le w =
    let none : most - turn ≡ 0 = omega arith in
    sym (ended_text clauses ops) ∙ ap (λ n. before clauses (clauses_from n ops tokens)) (sym none) ∙ w

pub fault_whole : (most turn : ℕ) (ops : Ops) (clauses : List ReadClause) (old new : Reading) (line : ℕ) (w : SyntaxWhy) (whole : Text) → turn < most → old.failed ≡ None → old.bounds ≡ bounds → Answers (Err (Syntax line w)) old new ops
    → before clauses (clauses_from (most - turn) ops old.rest) ≡ whole
    → (let t : Text = record { clauses = clauses; ops = ops; fault = Some (record { line = line; why = syntax_why w }) } in t) ≡ whole
fault_whole most turn ops clauses old new line w whole lt e b h at =
    let left : most - turn ≡ suc (most - (turn + 1)) = omega arith in
    let f : Fault = record { line = line; why = w } in
    let read = (fresh_answer (Err (Syntax line w)) old new ops e h).0 in
    ap (λ cs. let t : Text = record { clauses = cs; ops = ops; fault = Some (record { line = line; why = syntax_why w }) } in t) (sym (append-nil clauses))
    ∙ sym (at_fault (most - turn) (most - (turn + 1)) ops clauses old.rest f left (ap (λ (x : Bounds). next_clause x ops old.rest) (sym b) ∙ read))
    ∙ at

-- Worked rows of loading: what small trees of files come to. A file's text is read, judged and linked by the definitions
-- themselves.
use Rattle.std.proofs.Common.{◌≡◌, ℕ, true, false, Option, Some, None, refl}
use Rattle.std.specs.Prelude.{codes, if◌then◌else◌, length}
use Prim.Native.String.{String}
use Rattle.std.specs.Str.{bytes_eq}
use Rattle.std.specs.Str.Lossy.{utf8_valid_len}
use Rattle.std.specs.Str.{is_utf8, chars}
use Rattle.std.specs.Char.{encode_utf8}
use Rattle.cp_io.specs.Content.{Tree}
use Rattle.cp_code.specs.Bodies.{body_of}
use Rattle.cp_code.specs.Goals.{builtin_goal}
use Rattle.cp_assertion.specs.Assertions.{drafted}
use Rattle.cp_assertion.specs.Formulas.{formula}
use Rattle.cp_assertion.specs.RegularTypes.{demands_of, uses}
use Rattle.cp_module.specs.declared.why.Why.{Why}
use Rattle.cp_module.specs.declared.why.Why.TheVariants as why
use Rattle.cp_module.specs.Paths.{base_of, imported_file}
use Rattle.cp_module.specs.Texts.{text_of}
use Rattle.cp_module.specs.Causes as causes
use Rattle.cp_link.specs.Refusals as refusals
use Rattle.cp_link.specs.Linked.{linked}
use Rattle.cp_load.specs.Types.{type_fault, typed}
use Rattle.cp_load.specs.Assertions.{assertion_fault}
use Rattle.cp_load.specs.Gathering.{gathered}
use Rattle.cp_load.specs.Prelude as prelude
use Rattle.cp_load.specs.Accepted.{Outcome, Accepts, Refuses, Missing, outcome, program_of}

-- ---- trees of files

-- one file m.pl
abbrev one : String → Tree
one m name = if bytes_eq name (codes "m.pl") then Some (codes m) else None

-- m.pl and b.pl
abbrev two : (m b : String) → Tree
two m b name = if bytes_eq name (codes "b.pl") then Some (codes b) else one m name

-- m.pl, b.pl and c.pl
abbrev three : (m b c : String) → Tree
three m b c name = if bytes_eq name (codes "c.pl") then Some (codes c) else two m b name

-- what m.pl comes to, where a main goal is asked for
abbrev of : Tree → Outcome
of tree = outcome tree (codes "m.pl") true

abbrev refused_in : (file : String) → (line : ℕ) → Why → Outcome
refused_in file line w = Refuses (record { file = codes file; cause = record { line = line; why = w } })

abbrev refused : (line : ℕ) → Why → Outcome
refused line w = refused_in "m.pl" line w

-- how many modules, clauses and shared predicates an accepted program has
pub record Counts : Type 0 where
  pub modules : ℕ
  pub clauses : ℕ
  pub shared : ℕ

abbrev counts : Outcome → Option Counts
counts (Accepts parts) = Some (record { modules = length parts; clauses = (program_of parts).written; shared = length (program_of parts).shared })
counts other = None

abbrev counted : (modules clauses shared : ℕ) → Option Counts
counted m c s = Some (record { modules = m; clauses = c; shared = s })

-- ---- what is accepted

one_clause : counts (of (one ":- module(m, [main/0]).\nmain :- true.\n")) ≡ counted 1 1 0
unfolding utf8_valid_len is_utf8 chars encode_utf8 outcome gathered text_of causes.refused base_of imported_file refusals.refused linked type_fault typed assertion_fault drafted formula demands_of uses body_of builtin_goal
one_clause = refl

-- a producer and a consumer
producer_and_consumer : counts (of (one ":- module(m, [main/0], [concurrency]).\n:- concurrent q/1.\nmain :- eng_call(produce, create, create, _), consume.\nproduce :- assertz_fact(q(1)), assertz_fact(q(2)), close_predicate(q(_)).\nconsume :- retract_fact(q(X)), write(X), nl, fail.\nconsume.\n")) ≡ counted 1 4 1
unfolding utf8_valid_len is_utf8 chars encode_utf8 outcome gathered text_of causes.refused base_of imported_file refusals.refused linked type_fault typed assertion_fault drafted formula demands_of uses body_of builtin_goal
producer_and_consumer = refl

meta_predicate_across_modules : counts (of (two ":- module(m, [main/0]).\n:- use_module(b).\nmain :- twice(hi).\nhi :- write(hi), nl.\n" ":- module(b, [twice/1]).\n:- meta_predicate twice(goal).\ntwice(G) :- call(G), call(G).\n")) ≡ counted 2 3 0
unfolding utf8_valid_len is_utf8 chars encode_utf8 outcome gathered text_of causes.refused base_of imported_file refusals.refused linked type_fault typed assertion_fault drafted formula demands_of uses body_of builtin_goal
meta_predicate_across_modules = refl

-- modules that import each other in a ring
three_modules_in_a_ring : counts (of (three ":- module(m, [main/0]).\n:- use_module(b).\nmain :- b.\n" ":- module(b, [b/0]).\n:- use_module(c).\nb :- c.\n" ":- module(c, [c/0]).\n:- use_module(m).\nc :- true.\n")) ≡ counted 3 3 0
unfolding utf8_valid_len is_utf8 chars encode_utf8 outcome gathered text_of causes.refused base_of imported_file refusals.refused linked type_fault typed assertion_fault drafted formula demands_of uses body_of builtin_goal
three_modules_in_a_ring = refl

assertions_on_one_predicate : counts (of (one ":- module(m, [main/0]).\n:- pred p(X) : int(X).\n:- pred p(X) : atm(X).\np(_).\nmain :- p(a).\n")) ≡ counted 1 2 0
unfolding utf8_valid_len is_utf8 chars encode_utf8 outcome gathered text_of causes.refused base_of imported_file refusals.refused linked type_fault typed assertion_fault drafted formula demands_of uses body_of builtin_goal
assertions_on_one_predicate = refl

-- ---- what cannot be loaded

no_file : of (λ name. None) ≡ Missing (codes "m.pl")
unfolding utf8_valid_len is_utf8 chars encode_utf8 outcome gathered text_of causes.refused base_of imported_file refusals.refused linked type_fault typed assertion_fault drafted formula demands_of uses body_of builtin_goal
no_file = refl

no_imported_file : of (one ":- module(m, [main/0]).\n:- use_module(b).\nmain :- true.\n") ≡ Missing (codes "b.pl")
unfolding utf8_valid_len is_utf8 chars encode_utf8 outcome gathered text_of causes.refused base_of imported_file refusals.refused linked type_fault typed assertion_fault drafted formula demands_of uses body_of builtin_goal
no_imported_file = refl

-- a file is imported from the folder of the file that imports it
imported_from_its_folder : outcome (λ name. if bytes_eq name (codes "d/m.pl") then Some (codes ":- module(m, [main/0]).\n:- use_module(b).\nmain :- true.\n") else None) (codes "d/m.pl") true ≡ Missing (codes "d/b.pl")
unfolding utf8_valid_len is_utf8 chars encode_utf8 outcome gathered text_of causes.refused base_of imported_file refusals.refused linked type_fault typed assertion_fault drafted formula demands_of uses body_of builtin_goal
imported_from_its_folder = refl

-- ---- what is refused in a file by itself

empty_file : of (one "") ≡ refused 1 why.NoModuleHeader
unfolding utf8_valid_len is_utf8 chars encode_utf8 outcome gathered text_of causes.refused base_of imported_file refusals.refused linked type_fault typed assertion_fault drafted formula demands_of uses body_of builtin_goal
empty_file = refl

no_header : of (one "main :- true.\n") ≡ refused 1 why.NoModuleHeader
unfolding utf8_valid_len is_utf8 chars encode_utf8 outcome gathered text_of causes.refused base_of imported_file refusals.refused linked type_fault typed assertion_fault drafted formula demands_of uses body_of builtin_goal
no_header = refl

-- an export is not looked for where the text cannot be read
wide_number : of (one ":- module(m, [main/0]).\nmain :- X is 9223372036854775808.\n") ≡ refused 2 why.WideNumber
unfolding utf8_valid_len is_utf8 chars encode_utf8 outcome gathered text_of causes.refused base_of imported_file refusals.refused linked type_fault typed assertion_fault drafted formula demands_of uses body_of builtin_goal
wide_number = refl

earlier_line_first : of (one ":- module(m, [main/0]).\nmain :- 3.\np :- X is 1.5.\n") ≡ refused 2 why.BadBody
unfolding utf8_valid_len is_utf8 chars encode_utf8 outcome gathered text_of causes.refused base_of imported_file refusals.refused linked type_fault typed assertion_fault drafted formula demands_of uses body_of builtin_goal
earlier_line_first = refl

text_first_in_one_line : of (one ":- module(m, [main/0]).\nmain :- 3. p :- X is 1.5.\n") ≡ refused 2 why.Float
unfolding utf8_valid_len is_utf8 chars encode_utf8 outcome gathered text_of causes.refused base_of imported_file refusals.refused linked type_fault typed assertion_fault drafted formula demands_of uses body_of builtin_goal
text_first_in_one_line = refl

-- in one line the table decides, not the order of the clauses
body_before_builtin_in_one_line : of (one ":- module(m, [main/0]).\nwrite(x). main :- 3.\n") ≡ refused 2 why.BadBody
unfolding utf8_valid_len is_utf8 chars encode_utf8 outcome gathered text_of causes.refused base_of imported_file refusals.refused linked type_fault typed assertion_fault drafted formula demands_of uses body_of builtin_goal
body_before_builtin_in_one_line = refl

clause_of_a_builtin : of (one ":- module(m, [main/0]).\nwrite(x).\nmain :- true.\n") ≡ refused 2 why.ClauseOfBuiltin
unfolding utf8_valid_len is_utf8 chars encode_utf8 outcome gathered text_of causes.refused base_of imported_file refusals.refused linked type_fault typed assertion_fault drafted formula demands_of uses body_of builtin_goal
clause_of_a_builtin = refl

rule_of_a_shared_predicate : of (one ":- module(m, [main/0]).\n:- concurrent q/1.\nq(X) :- p(X).\nmain :- true.\n") ≡ refused 3 why.RuleOfShared
unfolding utf8_valid_len is_utf8 chars encode_utf8 outcome gathered text_of causes.refused base_of imported_file refusals.refused linked type_fault typed assertion_fault drafted formula demands_of uses body_of builtin_goal
rule_of_a_shared_predicate = refl

shared_twice : of (one ":- module(m, [main/0]).\n:- concurrent q/1.\n:- data q/1.\nmain :- true.\n") ≡ refused 3 why.SharedTwice
unfolding utf8_valid_len is_utf8 chars encode_utf8 outcome gathered text_of causes.refused base_of imported_file refusals.refused linked type_fault typed assertion_fault drafted formula demands_of uses body_of builtin_goal
shared_twice = refl

shared_behind_a_clause : of (one ":- module(m, [main/0]).\nq(1) :- a.\n:- concurrent q/1.\nmain :- true.\n") ≡ refused 3 why.SharedTwice
unfolding utf8_valid_len is_utf8 chars encode_utf8 outcome gathered text_of causes.refused base_of imported_file refusals.refused linked type_fault typed assertion_fault drafted formula demands_of uses body_of builtin_goal
shared_behind_a_clause = refl

unknown_declaration : of (one ":- module(m, [main/0]).\n:- dynamic(q/1).\nmain :- true.\n") ≡ refused 2 why.BadDeclaration
unfolding utf8_valid_len is_utf8 chars encode_utf8 outcome gathered text_of causes.refused base_of imported_file refusals.refused linked type_fault typed assertion_fault drafted formula demands_of uses body_of builtin_goal
unknown_declaration = refl

second_header : of (one ":- module(m, [main/0]).\n:- module(n, []).\nmain :- true.\n") ≡ refused 2 why.BadDeclaration
unfolding utf8_valid_len is_utf8 chars encode_utf8 outcome gathered text_of causes.refused base_of imported_file refusals.refused linked type_fault typed assertion_fault drafted formula demands_of uses body_of builtin_goal
second_header = refl

export_not_defined : of (one ":- module(m, [main/0, p/1]).\nmain :- true.\nq.\n") ≡ refused 1 why.NotExported
unfolding utf8_valid_len is_utf8 chars encode_utf8 outcome gathered text_of causes.refused base_of imported_file refusals.refused linked type_fault typed assertion_fault drafted formula demands_of uses body_of builtin_goal
export_not_defined = refl

-- ---- what is refused in files together

header_of_another_name : of (two ":- module(m, [main/0]).\n:- use_module(b).\nmain :- true.\n" ":- module(c, []).\n") ≡ refused_in "b.pl" 1 why.BadDeclaration
unfolding utf8_valid_len is_utf8 chars encode_utf8 outcome gathered text_of causes.refused base_of imported_file refusals.refused linked type_fault typed assertion_fault drafted formula demands_of uses body_of builtin_goal
header_of_another_name = refl

import_not_exported : of (two ":- module(m, [main/0]).\n:- use_module(b, [q/0]).\nmain :- true.\n" ":- module(b, [p/0]).\np.\n") ≡ refused 2 why.NotExported
unfolding utf8_valid_len is_utf8 chars encode_utf8 outcome gathered text_of causes.refused base_of imported_file refusals.refused linked type_fault typed assertion_fault drafted formula demands_of uses body_of builtin_goal
import_not_exported = refl

written_goal_not_exported : of (two ":- module(m, [main/0]).\n:- use_module(b).\nmain :- p, \\+ b:q.\n" ":- module(b, [p/0]).\np.\n") ≡ refused 3 why.NotExported
unfolding utf8_valid_len is_utf8 chars encode_utf8 outcome gathered text_of causes.refused base_of imported_file refusals.refused linked type_fault typed assertion_fault drafted formula demands_of uses body_of builtin_goal
written_goal_not_exported = refl

written_goal_exported : counts (of (two ":- module(m, [main/0]).\n:- use_module(b).\nmain :- p, \\+ b:p.\n" ":- module(b, [p/0]).\np.\n")) ≡ counted 2 2 0
unfolding utf8_valid_len is_utf8 chars encode_utf8 outcome gathered text_of causes.refused base_of imported_file refusals.refused linked type_fault typed assertion_fault drafted formula demands_of uses body_of builtin_goal
written_goal_exported = refl

clause_of_an_imported_predicate : of (two ":- module(m, [main/0]).\n:- use_module(b).\nmain :- true.\np.\n" ":- module(b, [p/0]).\np.\n") ≡ refused 4 why.ClauseOfImported
unfolding utf8_valid_len is_utf8 chars encode_utf8 outcome gathered text_of causes.refused base_of imported_file refusals.refused linked type_fault typed assertion_fault drafted formula demands_of uses body_of builtin_goal
clause_of_an_imported_predicate = refl

import_clash : of (three ":- module(m, [main/0]).\n:- use_module(b).\n:- use_module(c).\nmain :- true.\n" ":- module(b, [p/0]).\np.\n" ":- module(c, [p/0]).\np.\n") ≡ refused 3 why.ImportClash
unfolding utf8_valid_len is_utf8 chars encode_utf8 outcome gathered text_of causes.refused base_of imported_file refusals.refused linked type_fault typed assertion_fault drafted formula demands_of uses body_of builtin_goal
import_clash = refl

two_modules_of_one_name : of (one ":- module(m, [main/0]).\n:- use_active_module(m, [p/1]).\nmain :- true.\n") ≡ refused 2 why.DuplicateModule
unfolding utf8_valid_len is_utf8 chars encode_utf8 outcome gathered text_of causes.refused base_of imported_file refusals.refused linked type_fault typed assertion_fault drafted formula demands_of uses body_of builtin_goal
two_modules_of_one_name = refl

module_named_as_the_prelude : of (one ":- module(prelude, [main/0]).\nmain :- true.\n") ≡ refused 1 why.DuplicateModule
unfolding utf8_valid_len is_utf8 chars encode_utf8 outcome gathered text_of causes.refused base_of imported_file refusals.refused linked type_fault typed assertion_fault drafted formula demands_of uses body_of builtin_goal
module_named_as_the_prelude = refl

-- the causes of an earlier file come first
earlier_file_first : of (two ":- module(m, [main/0]).\n:- use_module(b).\nmain :- true.\np.\n" ":- module(b, [p/0]).\n:- use_active_module(prelude, [r/1]).\np.\n") ≡ refused 4 why.ClauseOfImported
unfolding utf8_valid_len is_utf8 chars encode_utf8 outcome gathered text_of causes.refused base_of imported_file refusals.refused linked type_fault typed assertion_fault drafted formula demands_of uses body_of builtin_goal
earlier_file_first = refl

-- ---- regular types, assertions and the main goal

type_with_a_variable_twice : of (one ":- module(m, [main/0]).\n:- regtype t/1.\nt(f(X, X)).\nmain :- true.\n") ≡ refused 3 why.NotRegular
unfolding utf8_valid_len is_utf8 chars encode_utf8 outcome gathered text_of causes.refused base_of imported_file refusals.refused linked type_fault typed assertion_fault drafted formula demands_of uses body_of builtin_goal
type_with_a_variable_twice = refl

type_declared_twice : of (one ":- module(m, [main/0]).\n:- regtype t/1.\n:- regtype t(X).\nt(a).\nmain :- true.\n") ≡ refused 3 why.NotRegular
unfolding utf8_valid_len is_utf8 chars encode_utf8 outcome gathered text_of causes.refused base_of imported_file refusals.refused linked type_fault typed assertion_fault drafted formula demands_of uses body_of builtin_goal
type_declared_twice = refl

head_with_a_variable_twice : of (one ":- module(m, [main/0]).\n:- pred p(X, X) : int(X).\np(_, _).\nmain :- true.\n") ≡ refused 2 why.BadHead
unfolding utf8_valid_len is_utf8 chars encode_utf8 outcome gathered text_of causes.refused base_of imported_file refusals.refused linked type_fault typed assertion_fault drafted formula demands_of uses body_of builtin_goal
head_with_a_variable_twice = refl

property_that_is_none : of (one ":- module(m, [main/0]).\n:- pred p(X) : big(X).\np(_).\nmain :- true.\n") ≡ refused 2 why.BadProperty
unfolding utf8_valid_len is_utf8 chars encode_utf8 outcome gathered text_of causes.refused base_of imported_file refusals.refused linked type_fault typed assertion_fault drafted formula demands_of uses body_of builtin_goal
property_that_is_none = refl

assertion_on_a_shared_predicate : of (one ":- module(m, [main/0]).\n:- concurrent q/1.\n:- pred q(X) : int(X).\nmain :- true.\n") ≡ refused 3 why.OnShared
unfolding utf8_valid_len is_utf8 chars encode_utf8 outcome gathered text_of causes.refused base_of imported_file refusals.refused linked type_fault typed assertion_fault drafted formula demands_of uses body_of builtin_goal
assertion_on_a_shared_predicate = refl

no_main : of (one ":- module(m, []).\np.\n") ≡ refused 1 why.NoMain
unfolding utf8_valid_len is_utf8 chars encode_utf8 outcome gathered text_of causes.refused base_of imported_file refusals.refused linked type_fault typed assertion_fault drafted formula demands_of uses body_of builtin_goal
no_main = refl

no_main_is_asked_for : counts (outcome (one ":- module(m, []).\np.\n") (codes "m.pl") false) ≡ counted 1 1 0
unfolding utf8_valid_len is_utf8 chars encode_utf8 outcome gathered text_of causes.refused base_of imported_file refusals.refused linked type_fault typed assertion_fault drafted formula demands_of uses body_of builtin_goal
no_main_is_asked_for = refl

-- ---- two files of one name of a module, and the prelude

two_files_of_one_module : of (λ name. if bytes_eq name (codes "d/m.pl") then Some (codes ":- module(m, [p/0]).\np.\n") else one ":- module(m, [main/0]).\n:- use_module('d/m').\nmain :- true.\n" name) ≡ refused_in "d/m.pl" 1 why.DuplicateModule
unfolding utf8_valid_len is_utf8 chars encode_utf8 outcome gathered text_of causes.refused base_of imported_file refusals.refused linked type_fault typed assertion_fault drafted formula demands_of uses body_of builtin_goal
two_files_of_one_module = refl

-- the prelude is a module like others
prelude_is_accepted : causes.refused (codes "prelude") (text_of prelude.text) ≡ None
unfolding utf8_valid_len is_utf8 chars encode_utf8 outcome gathered text_of causes.refused base_of imported_file refusals.refused linked type_fault typed assertion_fault drafted formula demands_of uses body_of builtin_goal
prelude_is_accepted = refl

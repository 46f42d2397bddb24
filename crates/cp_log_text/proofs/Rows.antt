-- The log of a worked run, which the definition computes: one engine runs the goal `m:main`, which adds a fact, takes it again,
-- and writes it and a newline.
use Rattle.std.proofs.Common.{◌≡◌, ℕ, List, [], ◌∷◌, ◌++◌, ◌<◌, zero, suc, Bool, cond, refl, ap, ap₂, lit<, true}
use Rattle.std.specs.Prelude.{ℤ, pos, None, codes}
use Rattle.std.specs.List.{flat_map}
use Rattle.std.specs.Fmt.{digits}
use Rattle.std.specs.Str.{IsAscii}
use Rattle.std.proofs.lemmas.Str.{IsUtf8-from_ascii, is_utf8-from_IsUtf8}
use Rattle.std.proofs.lemmas.Str.Ascii.{IsAscii-nil}
use Rattle.cp_log_text.specs.Port.{write_line}
use Prim.Native.String.{String}
use Rattle.cp_term.specs.declared.cell.Cell.{Cell}
use Rattle.cp_term.specs.declared.cell.Cell.TheVariants.{Var, Int, Atom, Func}
use Rattle.cp_call.specs.declared.call.ObjectName.TheVariants as name
use Rattle.cp_call.specs.declared.call.Call.TheVariants as call
use Rattle.cp_call.specs.declared.call.Reply.TheVariants as reply
use Rattle.cp_call.specs.declared.call.Entry.{Entry}
use Rattle.cp_call.specs.declared.item.Item.TheVariants as item
use Rattle.cp_call.specs.declared.item.PutReply.TheVariants as put
use Rattle.cp_call.specs.declared.outcome.Stand.TheVariants as stand
use Rattle.cp_call.specs.declared.outcome.PredEnd.{PredEnd}
use Rattle.cp_call.specs.declared.outcome.EngineEnd.{EngineEnd}
use Rattle.cp_call.specs.declared.outcome.Outcome.{Outcome}
use Rattle.cp_log_text.specs.Line.{functor, word, atom, number, list_parts, term_with, line_text, lines_text}
use Rattle.cp_log_text.specs.Log.{log_text, log_lines}

abbrev one : List ℕ
one = codes "1"

abbrev newline : List ℕ
newline = 10 ∷ []

abbrev q : ℤ → List Cell
q n = Func (codes "q") 1 ∷ Int n ∷ []

abbrev q_any : List Cell
q_any = Func (codes "q") 1 ∷ Var 0 ∷ []

abbrev main_goal : List Cell
main_goal = Func (codes ":") 2 ∷ Atom (codes "m") ∷ Atom (codes "main") ∷ []

abbrev took_goal : Entry
took_goal = record { caller = 1; call = call.Take (Var 0 ∷ []) None; reply = reply.Found (pos 1) main_goal }

abbrev waits_goal : Entry
waits_goal = record { caller = 1; call = call.Take (Var 0 ∷ []) None; reply = reply.Parked }

abbrev ended_true : List Cell
ended_true = Func (codes "ended") 2 ∷ Int (pos 1) ∷ Atom (codes "true") ∷ []

abbrev goals : PredEnd
goals = record {
  name = name.Goals;
  opening = main_goal ∷ [];
  history = took_goal ∷ waits_goal ∷ [];
  facts = [];
  is_open = true;
  parked = record { caller = 1; pattern = Var 0 ∷ []; after = None } ∷ [];
}

abbrev ended : PredEnd
ended = record {
  name = name.Ended;
  opening = [];
  history = record { caller = 1; call = call.AddBack ended_true; reply = reply.Added (pos 1) [] } ∷ [];
  facts = record { place = pos 1; fact = ended_true } ∷ [];
  is_open = true;
  parked = [];
}

abbrev q_end : PredEnd
q_end = record {
  name = name.Pred (record { «module» = codes "m"; name = codes "q"; arity = 1 });
  opening = [];
  history =
      record { caller = 1; call = call.AddBack (q (pos 1)); reply = reply.Added (pos 1) [] } ∷
      record { caller = 1; call = call.Take q_any None; reply = reply.Found (pos 1) (q (pos 1)) } ∷ [];
  facts = [];
  is_open = true;
  parked = [];
}

abbrev engine : EngineEnd
engine = record {
  number = 1;
  items =
      item.Asked 0 (call.Take (Var 0 ∷ []) None) (reply.Found (pos 1) main_goal) ∷
      item.Asked 2 (call.AddBack (q (pos 1))) (reply.Added (pos 1) []) ∷
      item.Asked 2 (call.Take q_any None) (reply.Found (pos 1) (q (pos 1))) ∷
      item.Wrote one put.Wrote ∷
      item.Wrote newline put.Wrote ∷
      item.Asked 1 (call.AddBack ended_true) (reply.Added (pos 1) []) ∷
      item.Asked 0 (call.Take (Var 0 ∷ []) None) reply.Parked ∷ [];
  stand = stand.Parked 0;
}

abbrev outcome : Outcome
outcome = record {
  steps = 1000000;
  engines = engine ∷ [];
  preds = goals ∷ ended ∷ q_end ∷ [];
  port = record { engine = 1; bytes = one; reply = put.Wrote } ∷ record { engine = 1; bytes = newline; reply = put.Wrote } ∷ [];
}

abbrev rows : List String
rows =
    "log(1,1000000,1)." ∷
    "object('$goals')." ∷
    "h(1,take(_0,none),found(1,m:main))." ∷
    "h(1,take(_0,none),parked)." ∷
    "object('$ended')." ∷
    "h(1,add_back(ended(1,true)),added(1,[]))." ∷
    "object(m:q/1)." ∷
    "h(1,add_back(q(1)),added(1,[]))." ∷
    "h(1,take(q(_0),none),found(1,q(1)))." ∷
    "port." ∷
    "w(1,'1',wrote)." ∷
    "w(1,'\\n',wrote)." ∷
    "engine(1)." ∷
    "i(a(0))." ∷
    "i(a(2))." ∷
    "i(a(2))." ∷
    "i(w)." ∷
    "i(w)." ∷
    "i(a(1))." ∷
    "i(a(0))." ∷
    "stand(parked(0))." ∷
    "end." ∷ []

-- each line has this text
abbrev AreWritten : List (List Cell) → List String → Type 0
AreWritten [] [] = Unit {0}
AreWritten (line ∷ lines) (row ∷ texts) = (line_text line ≡ codes row ++ newline) × AreWritten lines texts
AreWritten [] (row ∷ texts) = ⊥
AreWritten (line ∷ lines) [] = ⊥

all_written : (lines : List (List Cell)) (texts : List String) → AreWritten lines texts → lines_text lines ≡ flat_map (λ row. codes row ++ newline) texts
all_written [] [] h = refl
all_written (line ∷ lines) (row ∷ texts) h = ap₂ (λ (a b : List ℕ). a ++ b) h.0 (all_written lines texts h.1)
all_written [] (row ∷ texts) h = absurd h
all_written (line ∷ lines) [] h = absurd h

-- a character of ASCII is a text
ascii : (c : ℕ) → c < 128 → IsAscii (c ∷ [])
ascii c h zero = h
ascii c h (suc i) = IsAscii-nil i

wrote : (c : ℕ) → c < 128
    → line_text (write_line (record { engine = 1; bytes = c ∷ []; reply = put.Wrote })) ≡ line_text (term_with (functor "w" 3 ∷ number 1 ∷ atom (c ∷ []) ∷ word "wrote" ∷ []))
wrote c h =
    ap (λ (b : Bool). line_text (term_with (functor "w" 3 ∷ number 1 ∷ cond b (atom (c ∷ []) ∷ []) (list_parts (number c ∷ [])) ++ word "wrote" ∷ [])))
    (is_utf8-from_IsUtf8 (c ∷ []) (IsUtf8-from_ascii (c ∷ []) (ascii c h)))

lines_are_written : AreWritten (log_lines outcome) rows
unfolding line_text digits
lines_are_written =
    (refl, (refl, (refl, (refl, (refl, (refl, (refl, (refl, (refl, (refl, (wrote 49 (lit< tt), (wrote 10 (lit< tt), (refl, (refl, (refl, (refl, (refl, (refl, (refl, (refl, (refl, (refl, tt))))))))))))))))))))))

outcome-log : log_text outcome ≡ flat_map (λ row. codes row ++ newline) rows
outcome-log = all_written (log_lines outcome) rows lines_are_written

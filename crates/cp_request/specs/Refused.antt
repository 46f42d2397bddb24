-- Why nothing is asked: the kinds of errors (ISO/IEC 13211-1, 7.12.2).
use Rattle.std.specs.Prelude.{◌≡◌, [], ◌∷◌, Result, Ok, Err, codes}
use Rattle.cp_term.specs.declared.cell.Cell.TheVariants.{Int}
use Rattle.cp_goal.specs.Errors.{instantiation_error, type_error, domain_error, resource_error}
use Rattle.cp_heap.specs.State.{State, instance_at}
use Rattle.cp_heap.specs.declared.export_error.ExportError.{ExportError}
use Rattle.cp_heap.specs.declared.export_error.ExportError.TheVariants as export_error
use Rattle.cp_code.specs.Requests as requests
use Rattle.cp_code.specs.Requests.{Refused, existence_error, full_name}
use Rattle.cp_request.specs.declared.asking.Asking.{Asking}
use Rattle.cp_request.specs.declared.error_kind.ErrorKind.{ErrorKind}
use Rattle.cp_request.specs.declared.error_kind.ErrorKind.TheVariants as error_kind
use Rattle.cp_request.specs.declared.refusal.Refusal.{Refusal}
use Rattle.cp_request.specs.declared.refusal.Refusal.TheVariants as refusal
use Rattle.cp_request.specs.Shapes.{IsPlace}
use Rattle.cp_request.specs.Asked.{asking_shown, HasManner}

abbrev pub kind : State → ErrorKind → Refused
kind h error_kind.Unbound = instantiation_error
kind h (error_kind.NotCallable r) = type_error (codes "callable") (instance_at h r.at)
kind h (error_kind.NoData p) = existence_error (codes "data") (full_name p)
kind h (error_kind.NotConcurrent p) = domain_error (codes "concurrent") (full_name p)
kind h (error_kind.NotCreate r) = domain_error (codes "create") (instance_at h r.at)
kind h (error_kind.NotVariable r) = type_error (codes "variable") (instance_at h r.at)
kind h (error_kind.NotInteger r) = type_error (codes "integer") (instance_at h r.at)
kind h (error_kind.NoGoalId i) = domain_error (codes "goal_id") (Int i ∷ [])
kind h error_kind.TooLarge = resource_error (codes "term_size")

-- the term that the error names is in the heap
abbrev pub HasCulprit : State → ErrorKind → Type 0
HasCulprit h error_kind.Unbound = Unit {0}
HasCulprit h (error_kind.NotCallable r) = IsPlace h r
HasCulprit h (error_kind.NoData p) = Unit {0}
HasCulprit h (error_kind.NotConcurrent p) = Unit {0}
HasCulprit h (error_kind.NotCreate r) = IsPlace h r
HasCulprit h (error_kind.NotVariable r) = IsPlace h r
HasCulprit h (error_kind.NotInteger r) = IsPlace h r
HasCulprit h (error_kind.NoGoalId i) = Unit {0}
HasCulprit h error_kind.TooLarge = Unit {0}

abbrev pub refusal_of : ExportError → Refusal
refusal_of export_error.TooLarge = refusal.Raised error_kind.TooLarge
refusal_of export_error.NoMemory = refusal.NoMemory

-- the error of this kind is raised, or memory was wanting
abbrev pub Refuses : {A : Type 0} → State → Result A Refused → Refusal → Type 0
Refuses h answer (refusal.Raised e) = (answer ≡ Err (kind h e)) × HasCulprit h e
Refuses h answer refusal.NoMemory = Unit {0}

-- the question that is asked, or why none is
abbrev pub Asks : State → Result requests.Asking Refused → Result Asking Refusal → Type 0
Asks h answer (Ok a) = (answer ≡ Ok (asking_shown h a)) × HasManner h a.manner
Asks h answer (Err e) = Refuses h answer e

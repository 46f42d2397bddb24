use Rattle.std.proofs.Common.{sym, ◌∙◌, ap}
use Rattle.std.proofs.lemmas.List.{map_push}
use Rattle.cp_heap.specs.State.{instance_at}
use Rattle.cp_code.specs.Properties.{matched}
use Rattle.cp_props.specs.Patterns.{place_shown, places_shown, found}
use Rattle.cp_props.proofs.Matching.{variable_matched}
use Rattle.cp_props.proofs.pattern.put_place.Goals as goal

pub returns-clause-matched : goal.returns-clause-matched
returns-clause-matched c = λ rest terms.
    let h = c.args.heap.now in
    variable_matched (places_shown h c.args.places.now) c.args.var (instance_at h c.args.at.at) c.look-look.ensures.term rest terms
    ∙ ap (λ ps. found ps (matched rest terms))
    (sym (ap (places_shown h) c.in_ok-push.ensures.ok ∙ map_push (place_shown h) c.args.places.now (record { var = c.args.var; at = c.args.at })))

use Rattle.std.proofs.Common.{◌+◌, ◌<◌, List, length, length-append, refl, ◌∙◌, ap, subst, sym, arith}
use Rattle.std.specs.Prelude.{All}
use Rattle.std.proofs.lemmas.List.Elements.{All-push}
use Rattle.cp_heap.specs.declared.reference.Ref.{Ref}
use Rattle.cp_enter.proofs.ExtendLaws.{place-more}
use Rattle.cp_enter.proofs.extended.places_from.Goals as goal

pub places-preserved : goal.places-preserved
places-preserved c =
    let grown = c.in_ok-push.ensures.ok in
    record {
      terms = λ terms le. place-more terms c.args.first c.args.count c.places.index c.places.places c.push.new.self _ grown refl c.places-test.true le (c.places.invariant.terms terms le);
      live = λ n le. subst (λ (l : List Ref). All (λ r. r.at < n) l) (sym grown) (All-push (λ (r : Ref). r.at < n) c.places.places _ (c.places.invariant.live n le) (let lt = c.places-test.true in omega arith));
      len = ap length grown ∙ length-append c.places.places _ ∙ ap (λ k. k + 1) c.places.invariant.len;
    }

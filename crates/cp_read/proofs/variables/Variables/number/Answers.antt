use Rattle.std.proofs.Common.{◌≡◌, false, map, [], ◌∷◌, sym, ◌∙◌, ap, subst}
use Rattle.std.specs.Prelude.{Some, None, codes}
use Rattle.std.specs.Str.{bytes_eq}
use Rattle.std.proofs.lemmas.List.{map-append}
use Rattle.indexmap.proofs.CallerLemmas.{insert_entry-new}
use Rattle.cp_read.specs.SeenNames.{Seen, number_in, number_of, seen_with, with_new}
use Rattle.cp_read.specs.Seen.{named_entry, seen_in}
use Rattle.cp_read.proofs.lemmas.VariableLaws.{number_in-lookup, number_of-known, seen_with-known, number_of-new, seen_with-new, seen-is}
use Rattle.cp_read.proofs.variables.Variables.number.Goals as goal

pub returns-in-Some-get-clause-number : goal.returns-in-Some-get-clause-number
returns-in-Some-get-clause-number c =
    let name = c.args.name.now in
    let seen = seen_in c.self.inside in
    let named : bytes_eq name (codes "_") ≡ false = ap (bytes_eq name) (sym c.as_slice.ensures) ∙ (sym c.eq.ensures ∙ c.if-eq.false) in
    let found : number_in seen.names name ≡ Some c.in-Some-get.known.now = number_in-lookup name c.self.inside.numbers.entries ∙ sym c.in-Some-get.ensures.value in
    subst (λ (s : Seen). c.in-Some-get.known.now ≡ number_of s name) c.self.view_is (number_of-known seen name named c.in-Some-get.known.now found)

pub returns-in-Some-get-clause-names : goal.returns-in-Some-get-clause-names
returns-in-Some-get-clause-names c =
    let name = c.args.name.now in
    let seen = seen_in c.self.inside in
    let named : bytes_eq name (codes "_") ≡ false = ap (bytes_eq name) (sym c.as_slice.ensures) ∙ (sym c.eq.ensures ∙ c.if-eq.false) in
    let found : number_in seen.names name ≡ Some c.in-Some-get.known.now = number_in-lookup name c.self.inside.numbers.entries ∙ sym c.in-Some-get.ensures.value in
    subst (λ (s : Seen). s ≡ seen_with s name) c.self.view_is (seen_with-known seen name named c.in-Some-get.known.now found)

pub returns-clause-number : goal.returns-clause-number
returns-clause-number c =
    let name = c.args.name.now in
    let seen = seen_in c.self.inside in
    let named : bytes_eq name (codes "_") ≡ false = ap (bytes_eq name) (sym c.as_slice.ensures) ∙ (sym c.eq.ensures ∙ c.if-eq.false) in
    let none : number_in seen.names name ≡ None = number_in-lookup name c.self.inside.numbers.entries ∙ sym c.in_default-get.ensures.value in
    subst (λ (s : Seen). c.self.inside.count ≡ number_of s name) c.self.view_is (number_of-new seen name named none)

pub returns-clause-names : goal.returns-clause-names
returns-clause-names c =
    let name = c.args.name.now in
    let seen = seen_in c.self.inside in
    let named : bytes_eq name (codes "_") ≡ false = ap (bytes_eq name) (sym c.as_slice.ensures) ∙ (sym c.eq.ensures ∙ c.if-eq.false) in
    let none : number_in seen.names name ≡ None = number_in-lookup name c.self.inside.numbers.entries ∙ sym c.in_default-get.ensures.value in
    let entries = c.in_ok-insert.ensures.entries ∙ insert_entry-new _ c.self.inside.numbers c.args.name c.self.inside.count (sym c.in_default-get.ensures.value) in
    let names = ap (map named_entry) entries ∙ map-append named_entry c.self.inside.numbers.entries ((c.args.name, c.self.inside.count) ∷ []) in
    let after : Seen = record { names = map named_entry c.insert.new.self.entries; count = c.in-Some.count } in
    let own : after ≡ with_new seen name = seen-is _ _ _ _ names c.in-Some.ensures.1 in
    subst (λ (s : Seen). after ≡ seen_with s name) c.self.view_is (own ∙ seen_with-new seen name named none)

-- A list of the code's forms that has the values of all forms is as long, and has each of them at its number. Assumes
-- nothing.
use Rattle.std.proofs.Common.{◌≡◌, ◌∙◌, sym, ap, List, [], ℕ, ◌<◌, length, map, get_or, arith}
use Rattle.std.proofs.lemmas.List.{length-map, get_or-map}
use Rattle.tables.specs.Table.{equation}
use Rattle.lustre.specs.declared.Form.{Form as CodeForm}
use Rattle.lustre.specs.Form.{Form, form_value, no_form, forms, form_count, form_at}

-- The code's form that stands for an index past the end.
abbrev pub no_code_form : CodeForm
no_code_form = record { settled = equation 0 0 0 0; len = 0; bytes = [] }

pub values_length : (fs : List CodeForm) → map form_value fs ≡ forms → length fs ≡ form_count
unfolding forms
values_length fs e = sym (length-map fs form_value) ∙ ap length e

pub value_at : (fs : List CodeForm) (f : ℕ) → map form_value fs ≡ forms → f < form_count
    → form_value (get_or fs f no_code_form) ≡ form_at f
unfolding form_at
value_at fs f e h =
    let l : f < length fs = omega (arith, values_length fs e) in
    sym (get_or-map form_value fs f no_code_form no_form l) ∙ ap (λ (xs : List Form). get_or xs f no_form) e

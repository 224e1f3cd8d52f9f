use lib.ListN.{drop}
use mathlib.Core.Path.{sym, ◌∙◌}
use Rattle.refusals.proofs.HandedOn.{handed_on}
use Rattle.file_header.proofs.FieldLoops.{map_read, map-short, map-refused, map-onward}
use Rattle.file_header.proofs.header_at.Goals as goal

pub returns-in_default : goal.returns-in_default
returns-in_default c = record { is = map-short c.args.bytes.now c.number_at.ensures.is c.in_default.is; inside = tt }

pub returns-in_err-check_map : goal.returns-in_err-check_map
returns-in_err-check_map c =
    let l = c.args.bytes.now in
    rw (handed_on _ c.in_err-check_map.field-0.0 c.from_residual.ensures.1) (record {
      is = map-refused c.in-Some.map (drop c.in-Some.at l) c.in_err-check_map.ensures ∙ sym (map_read l c.number_at.ensures.is c.in-Some.is);
      inside = tt;
    })

pub returns : goal.returns
returns c =
    let l = c.args.bytes.now in
    record {
      is = c.fields_at.ensures.is ∙ map-onward c.in-Some.map (drop c.in-Some.at l) c.in_ok-check_map.ensures ∙ sym (map_read l c.number_at.ensures.is c.in-Some.is);
      inside = c.fields_at.ensures.inside;
    }

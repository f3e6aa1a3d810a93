-- `region_around` meets its contract. The last region of its tree is before it, and so are those around that one.
use Rattle.plan_changed_region.proofs.Regions.{past_word, top_bound, top_outward, region_found, region_low}
use Rattle.plan_changed_region.proofs.region_around.Goals as goal

pub enclosing_region-requires : goal.enclosing_region-requires
enclosing_region-requires c =
    let low = c.requires.1 in
    let e = past_word _ c.checked_sub-last.ensures c.args.tops.now c.field.result c.word_or_zero.ensures.0 in
    (top_bound c.args.rows.now _ _ _ _ low e c.requires.0, top_outward c.args.rows.now _ _ _ _ low e c.requires.2)

pub returns : goal.returns
returns c =
    let low = c.requires.1 in
    let e = past_word _ c.checked_sub-last.ensures c.args.tops.now c.field.result c.word_or_zero.ensures.0 in
    let r = c.enclosing_region.ensures in
    (region_found c.args.rows.now _ _ _ _ low e _ _ _ c.field.ensures.0 c.field-2.ensures.0 c.field-3.ensures.0 r, region_low c.args.rows.now _ _ _ _ low e _ _ _ r)

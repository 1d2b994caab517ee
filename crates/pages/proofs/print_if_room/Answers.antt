use native.Mathlib.Omega.{arith}
use mathlib.Core.Path.{refl}
use Rattle.expansion.specs.Levels.{count_room}
use Rattle.listing.specs.Listing.{asks}
use Rattle.pages.proofs.PagesCallLaws as l
use Rattle.pages.proofs.print_if_room.Goals as goal

pub slice_bounds-index-end : goal.slice_bounds-index-end
slice_bounds-index-end c = refl

pub slice_bounds-index-end-2 : goal.slice_bounds-index-end-2
slice_bounds-index-end-2 c = refl

pub slice_bounds-index-end-3 : goal.slice_bounds-index-end-3
slice_bounds-index-end-3 c = refl

pub index-requires : goal.index-requires
index-requires c = l.index_input c.args.fleet.now c.args.request c.requires.0 c.requires.1 refl refl refl

pub count-pages-requires : goal.count-pages-requires
unfolding count_room
count-pages-requires c = (l.begin_input c.args.fleet.now c.args.request c.requires.0 c.requires.1 (record { indexed = c.index.ensures; all_places = refl; all_lens = refl; all_counts = refl; all_known = refl }), omega (arith, c.well_formed.1.1.0))

pub returns-then-pages-most : goal.returns-then-pages-most
returns-then-pages-most c = let z = l.too_short (asks c.args.fleet.now c.args.request) c.args.output.now c.requires.1 c.count-pages.ensures.value c.if-pages-most.true in record { value = z.0; output_after = z.1 }

pub print-requires : goal.print-requires
print-requires c = let r = l.room (asks c.args.fleet.now c.args.request) c.args.output.now c.requires.1 c.count-pages.ensures.value c.if-pages-most.false in (l.begin_input c.args.fleet.now c.args.request c.requires.0 c.requires.1 c.count-pages.ensures.all_tables, r.0, r.1)

pub returns : goal.returns
returns c = let z = l.printed (asks c.args.fleet.now c.args.request) c.args.output.now c.requires.1 c.count-pages.ensures.value c.if-pages-most.false c.print.ensures in record { value = z.0; output_after = z.1 }

use Rattle.std.proofs.Common.{sym, ◌∙◌}
use Rattle.index.proofs.Refusals.{is_one, past_one, is-two-low, is-two-high, past_two, is-three-none, is-three-many, is-three-form, past_three}
use Rattle.index.proofs.Settings.check_form.Goals as goal
use Rattle.index.proofs.Settings.check_form.Goals.{then-width-lt-LEAST_WIDTH-via-then-width-lt-LEAST_WIDTH, then-width-lt-LEAST_WIDTH-via-else-width-lt-LEAST_WIDTH+then-width-gt-MOST_WIDTH}
use Rattle.index.proofs.Settings.check_form.Goals.{then-buckets-eq0-via-then-buckets-eq0, then-buckets-eq0-via-else-buckets-eq0+then-buckets-gt-MOST_BUCKETS}
use Rattle.index.proofs.Settings.check_form.Goals.{then-buckets-eq0-via-else-buckets-eq0+else-buckets-gt-MOST_BUCKETS+then-misshapen}

pub returns-then-rule-gt-LAST_RULE : goal.returns-then-rule-gt-LAST_RULE
returns-then-rule-gt-LAST_RULE c = is_one _ c.if-rule-gt-LAST_RULE.true

pub returns-then-width-lt-LEAST_WIDTH : goal.returns-then-width-lt-LEAST_WIDTH
returns-then-width-lt-LEAST_WIDTH c =
    let two = past_one _ c.if-rule-gt-LAST_RULE.false in
    elim c.then-width-lt-LEAST_WIDTH.branch [
      | then-width-lt-LEAST_WIDTH-via-then-width-lt-LEAST_WIDTH w ↦ is-two-low _ two w.if-width-lt-LEAST_WIDTH.true
      | then-width-lt-LEAST_WIDTH-via-else-width-lt-LEAST_WIDTH+then-width-gt-MOST_WIDTH w ↦ is-two-high _ two w.if-width-gt-MOST_WIDTH.true
    ]

pub returns-then-buckets-eq0 : goal.returns-then-buckets-eq0
returns-then-buckets-eq0 c =
    let three = past_two _ (past_one _ c.if-rule-gt-LAST_RULE.false) c.if-width-lt-LEAST_WIDTH.false c.if-width-gt-MOST_WIDTH.false in
    elim c.then-buckets-eq0.branch [
      | then-buckets-eq0-via-then-buckets-eq0 w ↦ is-three-none _ three w.if-buckets-eq0.true
      | then-buckets-eq0-via-else-buckets-eq0+then-buckets-gt-MOST_BUCKETS w ↦ is-three-many _ three w.if-buckets-gt-MOST_BUCKETS.true
      | then-buckets-eq0-via-else-buckets-eq0+else-buckets-gt-MOST_BUCKETS+then-misshapen w ↦ is-three-form _ three (sym w.misshapen.ensures ∙ w.if-misshapen.true)
    ]

pub returns : goal.returns
returns c =
    let three = past_two _ (past_one _ c.if-rule-gt-LAST_RULE.false) c.if-width-lt-LEAST_WIDTH.false c.if-width-gt-MOST_WIDTH.false in
    past_three _ three c.if-buckets-eq0.false c.if-buckets-gt-MOST_BUCKETS.false (sym c.misshapen.ensures ∙ c.if-misshapen.false)

-- The devices of specs/Examples, computed.
use mathlib.Core.Path.{refl}
use Rattle.report.specs.Lists.{member, keep}
use Rattle.report.specs.Features.{bit}
use Rattle.report_tables.specs.Endpoints.{required, invalid}
use Rattle.report_tables.specs.Attributes.{rows}
use Rattle.report.specs.Attributes.{conditions, condition_in, mandatory}
use Rattle.report.specs.Rules.{lacks_need, clashes, lacks_supply, lacks_required, has_invalid, lacks_attribute, bit_rules, broken, candidates, breaches}
use Rattle.report.specs.Report.{in_range, flat}
use Rattle.report.specs.Examples.{examples, Witnessed}

pub witnessed : Witnessed
unfolding Witnessed examples in_range flat breaches keep candidates broken bit_rules lacks_need clashes lacks_supply lacks_required has_invalid
    lacks_attribute mandatory condition_in conditions rows required invalid member bit
witnessed = (refl, refl)

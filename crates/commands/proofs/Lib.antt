mod RuleLaw
mod FaultLaw
mod PressLaw
mod StateLaw
mod CommandLaw
mod ScanLaw

mod ReportLaw

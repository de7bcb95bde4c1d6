mod Filed
